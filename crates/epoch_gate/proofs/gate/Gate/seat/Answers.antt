use Rattle.std.proofs.Common.{ap, ◌∙◌}
use Rattle.epoch_gate.proofs.Standing.{stood_as}
use Rattle.gate_rule.specs.Views.{with_seat}
use Rattle.epoch_gate.proofs.gate.Gate.seat.Goals as goal

pub returns-clause-rule : goal.returns-clause-rule
returns-clause-rule g c =
    let told = c.glance.ensures.told in
    stood_as g.V.Journal.means g.D.Decider.decides c.args.self.now.fixed _ _ 0 c.glance.result _ (ap (λ (m : _). m.0) c.make-place.ensures.kept ∙ ap (λ (s : _). with_seat s.view) c.admin.view_is) (ap (λ (m : _). m.0.trace.last.found) told.0) c.requires.1 told.2
