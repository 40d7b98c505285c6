use Rattle.std.proofs.Common.{sym, ap, ◌∙◌}
use Rattle.access_vectors.specs.Stale.{all_following}
use Rattle.access_vectors.specs.Phases.{number_of}
use Rattle.retained_rights.proofs.ClaimLemmas.{follows_in, follows_settled}
use Rattle.std.proofs.Common.{◌≡◌, length, subst}
use Rattle.slot_tables.specs.Words.{places}
use Rattle.retained_rights.specs.Good.{IsGood}
use Rattle.retained_rights.proofs.FitLemmas.{good_from_fit, fit_from_good, good_settled, no_places}
use Rattle.retained_rights.proofs.grants.Grants.settle.Goals as goal

pub returns-in-Pending-clause-fit : goal.returns-in-Pending-clause-fit
returns-in-Pending-clause-fit g c = λ d fit.
    let held = c.self.inside.store.held in
    let words = c.self.inside.store.words in
    let good : IsGood d c.self.inside.ruled c.self.inside.class c.self.inside.phase held words = good_from_fit held words (rw (← c.self.view_is) at fit) in
    let none : length (places words) ≡ 0 = rw (← c.self.view_is) at c.requires.revised in
    fit_from_good held words (good_settled c.in-Pending.number c.in-Pending.old c.in-Pending.new
    (subst (λ p. IsGood d c.self.inside.ruled c.self.inside.class p held words) c.in-Pending.is good) (no_places words none))

pub returns-in-Pending-clause-follows : goal.returns-in-Pending-clause-follows
returns-in-Pending-clause-follows g c =
    let held = c.self.inside.store.held in
    rw (← c.self.view_is)
    (follows_settled c.in-Pending.number c.in-Pending.old c.in-Pending.new held ∙ ap (λ p. all_following (number_of p) (follows_in p held)) (sym c.in-Pending.is))
