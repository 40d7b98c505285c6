use Rattle.std.proofs.Common.{ap, refl}
use Rattle.epoch_gate.proofs.Standing.{stood_as}
use Rattle.epoch_gate.proofs.gate.Gate.give.Goals as goal

pub returns-clause-rule : goal.returns-clause-rule
returns-clause-rule g c =
    stood_as g.V.Journal.means g.D.Decider.decides c.args.self.now.fixed c.seat.inside.place.me.0 c.args.seat.now.view 4 c.give.new.place.me.0.trace.last.found _ (ap (λ (s : _). s.view) c.seat.view_is) refl c.requires.gate.1 c.give.ensures.rule
