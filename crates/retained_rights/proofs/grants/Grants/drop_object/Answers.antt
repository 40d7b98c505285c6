use Rattle.retained_rights.proofs.ClaimLemmas.{claims_in, follows_in, mapped_without}
use Rattle.std.proofs.Common.{ap, ◌∙◌}
use Rattle.std.specs.FinMap as maps
use Rattle.retained_rights.specs.Rights.{is_on}
use Rattle.retained_rights.proofs.FitLemmas.{good_from_fit, fit_from_good, good_without, numbered_without}
use Rattle.retained_rights.proofs.SlotsLemmas.{get-without_object}
use Rattle.retained_rights.proofs.grants.Grants.drop_object.Goals as goal

pub invariant_of-self : goal.invariant_of-self
invariant_of-self g c =
    let held = c.self.inside.store.held in
    numbered_without c.self.inside.phase held c.drop_all.new.store.held (λ q. is_on c.args.object (maps.get held q)) c.self.invariant
    (λ q. ap (λ m. maps.get m q) c.drop_all.ensures.held ∙ get-without_object c.args.object held q)

pub returns-clause-fit : goal.returns-clause-fit
returns-clause-fit g c = λ d fit.
    let held = c.self.inside.store.held in
    fit_from_good c.drop_all.new.store.held c.drop_all.new.store.words
    (good_without (good_from_fit held c.self.inside.store.words (rw (← c.self.view_is) at fit)) c.drop_all.new.store.held c.drop_all.new.store.words (λ q. is_on c.args.object (maps.get held q))
    (λ q. ap (λ m. maps.get m q) c.drop_all.ensures.held ∙ get-without_object c.args.object held q) c.drop_all.ensures.stale)

pub returns-clause-claims : goal.returns-clause-claims
returns-clause-claims g c = rw (← c.self.view_is) (ap claims_in c.drop_all.ensures.held ∙ mapped_without _ c.args.object c.self.inside.store.held)

pub returns-clause-follows : goal.returns-clause-follows
returns-clause-follows g c =
    rw (← c.self.view_is) (ap (follows_in c.self.inside.phase) c.drop_all.ensures.held ∙ mapped_without _ c.args.object c.self.inside.store.held)
