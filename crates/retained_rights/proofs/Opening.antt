-- Grants that hold nothing yet.
use Rattle.std.proofs.Common.{◌≡◌, ℕ, ◌<◌, false, [], None, Some, refl, sym, ap, subst, ◌∙◌}
use Rattle.std.specs.Ordering.{nat_cmp}
use Rattle.std.specs.FinMap as maps
use Rattle.access_vectors.specs.Decisions.{Decisions}
use Rattle.access_vectors.specs.declared.class.Class.{Class}
use Rattle.access_vectors.specs.declared.phase.Phase.TheVariants.{Settled}
use Rattle.slot_tables.specs.Words.{holds, places, places_from, among}
use Rattle.slot_tables.proofs.WordLemmas.{among-places}
use Rattle.retained_rights.specs.declared.rule.Rule.{Rule}
use Rattle.retained_rights.specs.declared.grant.Grant.{Grant}
use Rattle.retained_rights.specs.Rights.{Fit, no_rights}
use Rattle.retained_rights.specs.Good.{stale_at, IsGood}
use Rattle.retained_rights.proofs.FitLemmas.{fit_from_good, rights_of}

none_some : (grant : Grant) → None ≡ Some grant → ⊥
none_some grant same = cc

nowhere : places [] ≡ []
unfolding places places_from
nowhere = refl

none_held : (q : ℕ) → holds [] q ≡ false
none_held q = sym (among-places [] q) ∙ ap (among q) nowhere

good_none : (d : Decisions) (rule : Rule) (class : Class) → 0 < d.versions → IsGood d rule class (Settled 0 0) maps.empty []
good_none d rule class some =
    record {
      right = λ q grant used. absurd (none_some grant (sym (maps.get-empty nat_cmp q) ∙ used));
      stale = λ q. none_held q ∙ ap (stale_at d class (Settled 0 0)) (sym (maps.get-empty nat_cmp q));
      versions = some;
    }

-- the promise between no grants and any decider that has versions
pub fit_none : (d : Decisions) (rule : Rule) (class : Class) → 0 < d.versions → Fit d (no_rights rule class)
fit_none d rule class some =
    let is : rights_of rule class (Settled 0 0) maps.empty [] ≡ no_rights rule class = λ i. record { rule = rule; class = class; phase = Settled 0 0; held = maps.empty; stale = nowhere i } in
    subst (Fit d) is (fit_from_good maps.empty [] (good_none d rule class some))
