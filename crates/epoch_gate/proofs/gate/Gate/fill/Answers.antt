use Rattle.std.proofs.Common.{ap}
use Rattle.epoch_gate.proofs.Standing.{stood_as}
use Rattle.epoch_gate.proofs.gate.Gate.fill.Goals as goal

pub returns-clause-rule : goal.returns-clause-rule
returns-clause-rule g c =
    let told = c.fill_row.ensures.told in
    stood_as g.V.Journal.means g.D.Decider.decides c.args.self.now.fixed c.seat.inside.place.me.0 c.args.seat.now.view _ c.fill_row.result _ (ap (λ (s : _). s.view) c.seat.view_is) (ap (λ (m : _). m.0.trace.last.found) told.0) c.requires.gate.1 told.1
