use Rattle.std.proofs.Common.{ap, ◌∙◌}
use Rattle.epoch_gate.proofs.Standing.{stood_as}
use Rattle.gate_rule.specs.Views.{with_ended}
use Rattle.epoch_gate.proofs.gate.Gate.retire.Goals as goal

pub returns-clause-rule : goal.returns-clause-rule
returns-clause-rule g c =
    let told = c.glance.ensures.told in
    stood_as g.V.Journal.means g.D.Decider.decides c.args.self.now.fixed _ _ 0 c.glance.result _ (ap (λ (m : _). m.0) c.retire.ensures.kept ∙ (λ i. with_ended (c.admin.view_is i).view (c.seat.view_is i).view)) (ap (λ (m : _). m.0.trace.last.found) told.0) c.requires.gate.1 told.2
