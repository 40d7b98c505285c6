use Rattle.manager_history.specs.Histories.{start_of}
use Rattle.manager_history.proofs.LawLemmas.{revocation_from_lawful, denials_from_lawful}
use Rattle.manager_history.proofs.keeper.Keeper.entries.Goals as goal

pub returns-clause-revocation : goal.returns-clause-revocation
returns-clause-revocation g c =
    let d = g.D.Decider.decides c.self.inside.decider.now in
    rw (← c.self.view_is) (revocation_from_lawful g.C.Core.denial_of g.C.Core.plain g.C.Core.formed d (start_of (g.C.Core.opening c.self.inside.core))
    c.self.inside.entries.items (g.met.C.Core.honest d) c.self.invariant.0.lawful)

pub returns-clause-denials : goal.returns-clause-denials
returns-clause-denials g c =
    let d = g.D.Decider.decides c.self.inside.decider.now in
    rw (← c.self.view_is) (denials_from_lawful g.C.Core.denial_of g.C.Core.plain g.C.Core.formed d (start_of (g.C.Core.opening c.self.inside.core))
    c.self.inside.entries.items (g.met.C.Core.honest d) c.self.invariant.0.lawful)
