use Rattle.retained_rights.proofs.MapLemmas.{mapped-remove}
use Rattle.retained_rights.proofs.ClaimLemmas.{claims_in, follows_in}
use Rattle.std.proofs.Common.{eqb, ap, ◌∙◌}
use Rattle.std.specs.FinMap as maps
use Rattle.slot_tables.proofs.SlotLemmas.{get-taken}
use Rattle.retained_rights.proofs.FitLemmas.{good_from_fit, fit_from_good, good_without, numbered_without}
use Rattle.retained_rights.proofs.grants.Grants.drop_slot.Goals as goal

pub invariant_of-self : goal.invariant_of-self
invariant_of-self g c =
    numbered_without c.self.inside.phase c.self.inside.store.held c.free.new.self.held (λ q. eqb q c.place_of.result) c.self.invariant (λ q. ap (λ m. maps.get m q) c.free.ensures.held ∙ get-taken c.self.inside.store.held c.place_of.result q)

pub returns-clause-fit : goal.returns-clause-fit
returns-clause-fit g c = λ d fit.
    fit_from_good c.free.new.self.held c.free.new.self.words
    (good_without (good_from_fit c.self.inside.store.held c.self.inside.store.words (rw (← c.self.view_is) at fit)) c.free.new.self.held c.free.new.self.words (λ q. eqb q c.place_of.result)
    (λ q. ap (λ m. maps.get m q) c.free.ensures.held ∙ get-taken c.self.inside.store.held c.place_of.result q) c.free.ensures.stale)

pub returns-clause-claims : goal.returns-clause-claims
returns-clause-claims g c =
    rw (← c.self.view_is, ← c.place_of.ensures) (ap claims_in c.free.ensures.held ∙ mapped-remove _ c.self.inside.store.held c.place_of.result)

pub returns-clause-follows : goal.returns-clause-follows
returns-clause-follows g c =
    rw (← c.self.view_is, ← c.place_of.ensures) (ap (follows_in c.self.inside.phase) c.free.ensures.held ∙ mapped-remove _ c.self.inside.store.held c.place_of.result)
