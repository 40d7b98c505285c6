use Rattle.std.proofs.Common.{ap, rules}
use Rattle.gate_rule.specs.Views.{leave_word}
use Rattle.epoch_gate.proofs.Standing.{stood_at}
use Rattle.epoch_gate.proofs.gate.Gate.leave.Goals as goal

pub returns-clause-rule : goal.returns-clause-rule
returns-clause-rule g c =
    let told = c.leave.ensures.told in
    stood_at g.V.Journal.means g.D.Decider.decides c.args.self.now.fixed c.seat.inside.place.me.0 c.args.seat.now.view (leave_word c.in-Some.number) _ c.leave.result _ (ap leave_word (search rules)) (ap (λ (s : _). s.view) c.seat.view_is) (ap (λ (m : _). m.0.trace.last.found) told.0) c.requires.gate.1 told.1
