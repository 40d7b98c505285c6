use Rattle.std.proofs.Common.{ap}
use Rattle.epoch_gate.proofs.Standing.{stood_as}
use Rattle.epoch_gate.proofs.gate.Gate.raise.Goals as goal

pub returns-clause-rule : goal.returns-clause-rule
returns-clause-rule g c =
    let told = c.raise-found.ensures.told.1 in
    stood_as g.V.Journal.means g.D.Decider.decides c.args.self.now.fixed c.admin.inside.place.me.0 c.args.admin.now.view 0 c.raise-found.result _ (ap (λ (s : _). s.view) c.admin.view_is) (ap (λ (m : _). m.0.trace.last.found) told.0) c.requires.gate.1 told.4
