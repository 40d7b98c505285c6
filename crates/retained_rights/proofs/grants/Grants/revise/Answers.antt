use Rattle.std.proofs.Common.{ap, ◌∙◌}
use Rattle.retained_rights.proofs.ClaimLemmas.{claims_in, follows_in, claims_revised, follows_revised}
use Rattle.access_vectors.specs.Phases.{number_of}
use Rattle.retained_rights.specs.Good.{IsGood}
use Rattle.retained_rights.proofs.FitLemmas.{good_from_fit, fit_from_good, numbered_mapped, number_either, not_above}
use Rattle.retained_rights.proofs.grants.Grants.revise.Goals as goal

pub revise_first-requires-clause-good : goal.revise_first-requires-clause-good
revise_first-requires-clause-good g c =
    let held = c.self.inside.store.held in
    let words = c.self.inside.store.words in
    let d = g.D.Decider.decides c.args.decider.now in
    let good : IsGood d c.self.inside.ruled c.self.inside.class c.self.inside.phase held words = good_from_fit held words (rw (← c.self.view_is) at c.requires.fit) in
    good

pub invariant_of-self : goal.invariant_of-self
invariant_of-self g c =
    numbered_mapped c.self.inside.phase c.self.inside.store.held c.revise_first.new.store.held _ c.self.invariant c.revise_first.ensures.held (λ q grant small. number_either _ _ grant _ (not_above (number_of c.self.inside.phase)) small)

pub returns-clause-fit : goal.returns-clause-fit
returns-clause-fit g c = fit_from_good c.revise_first.new.store.held c.revise_first.new.store.words c.revise_first.ensures.good

pub returns-clause-claims : goal.returns-clause-claims
returns-clause-claims g c =
    rw (← c.self.view_is)
    (ap claims_in c.revise_first.ensures.held
    ∙ claims_revised (g.D.Decider.decides c.args.decider.now) c.self.inside.ruled c.self.inside.class _ _ (number_of c.self.inside.phase) c.self.inside.store.held)

pub returns-clause-follows : goal.returns-clause-follows
returns-clause-follows g c =
    rw (← c.self.view_is)
    (ap (follows_in c.self.inside.phase) c.revise_first.ensures.held
    ∙ follows_revised (g.D.Decider.decides c.args.decider.now) c.self.inside.ruled c.self.inside.class _ _ c.self.inside.phase c.self.inside.store.held
    (rw (← c.self.view_is) at c.requires.pending))
