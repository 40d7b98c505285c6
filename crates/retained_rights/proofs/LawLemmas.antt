-- What a promise of rights tells of stale slots, of the policy numbers that slots follow, and of a use.
use Rattle.std.proofs.Common.{◌≡◌, ℕ, ◌-◌, ◌<◌, Bool, true, false, Option, None, Some, is_some, IsTrue, refl, sym, ap, subst, ◌∙◌, inl, inr, arith}
use Rattle.std.specs.Prelude.{option_map, ◌==◌, if◌then◌else◌, MatchOption}
use Rattle.std.specs.FinMap as maps
use Rattle.access_vectors.specs.Decisions.{Decisions}
use Rattle.access_vectors.specs.Mapped.{mapped}
use Rattle.access_vectors.specs.Phases.{MayName, AreVersions, version_at}
use Rattle.access_vectors.specs.Stale.{Pair, AreNamed, stale_slots}
use Rattle.access_vectors.specs.declared.class.Class.{Class}
use Rattle.access_vectors.specs.declared.phase.Phase.{Phase}
use Rattle.access_vectors.specs.declared.phase.Phase.TheVariants.{Settled, Pending}
use Rattle.access_vectors.proofs.MappedLemmas.{get-mapped}
use Rattle.retained_rights.specs.declared.grant.Grant.{Grant}
use Rattle.retained_rights.specs.declared.grant.Usable.{Usable}
use Rattle.retained_rights.specs.Rights.{Rights, Fit, IsFit, followed, follows_of, pair_in, bits_under, usable_of}
use Rattle.retained_rights.specs.Claims.{Claim, claim_of, claims_of, pair_for, IsUseOf, IsUnused}
use Rattle.retained_rights.proofs.MapLemmas.{mapped_some}
use Rattle.retained_rights.proofs.Following.{version_followed}

pub fit_is : (d : Decisions) (rights : Rights) → Fit d rights → IsFit d rights
unfolding Fit
fit_is d rights fit = fit

-- the policy number that bits follow may be named
followed_named : (versions : ℕ) (phase : Phase) (number : ℕ) → AreVersions versions phase → MayName phase (followed phase number)
followed_named versions (Settled settled version) number are = refl
followed_named versions (Pending pending old new) number are =
    elim (number == pending) as (λ (b : Bool). MayName (Pending pending old new) (if b then pending else pending - 1)) [
      | true ↦ inl refl
      | false ↦ inr (omega (arith, are.0))
    ]

-- each number that a slot follows may be named
pub follows_named : (d : Decisions) (rights : Rights) → Fit d rights → AreNamed rights.phase (follows_of rights)
follows_named d rights fit place number is =
    let was = mapped_some (λ q (grant : Grant). followed rights.phase grant.number) rights.held place number is in
    subst (MayName rights.phase) was.2 (followed_named d.versions rights.phase was.0.number (fit_is d rights fit).versions)

-- where a store says of what each slot is for that the pair of its place is the claim's, and that a free slot has no pair
module _ {Slot : Type 0} (slot_of : Claim → Slot) (pair_held : ℕ → Option Slot → Option Pair) (rights : Rights) (none : (place : ℕ) → pair_held place None ≡ None)
    (claimed : (place : ℕ) (claim : Claim) → maps.get (claims_of rights) place ≡ Some claim → pair_held place (Some (slot_of claim)) ≡ Some (pair_for claim)) where
  -- the pair of a place as the plain state has it
  abbrev pair_at : ℕ → Option Pair
  pair_at place = pair_held place (maps.get (mapped (λ q claim. slot_of claim) (claims_of rights)) place)

  pair_is : (place : ℕ) → pair_at place ≡ option_map pair_for (maps.get (claims_of rights) place)
  pair_is place = ap (pair_held place) (get-mapped (λ q claim. slot_of claim) (claims_of rights) place) ∙ at (maps.get (claims_of rights) place) refl
    where
      at : (o : Option Claim) → maps.get (claims_of rights) place ≡ o → pair_held place (option_map slot_of o) ≡ option_map pair_for o
      at None is = none place
      at (Some claim) is = claimed place claim is

  pair_in_is : (place : ℕ) → pair_in rights.held place ≡ pair_at place
  pair_in_is place = twice (maps.get rights.held place) ∙ ap (option_map pair_for) (sym (get-mapped (λ q grant. claim_of grant) rights.held place)) ∙ sym (pair_is place)
    where
      twice : (o : Option Grant) → option_map (λ (grant : Grant). record { source = grant.s; target = grant.t }) o ≡ option_map pair_for (option_map (λ (grant : Grant). claim_of grant) o)
      twice None = refl
      twice (Some grant) = refl

  -- the stale slots are those of the definition
  pub stale_as_defined : (d : Decisions) (class : Class) → Fit d rights → rights.class ≡ class → rights.stale ≡ stale_slots d class rights.phase pair_at (follows_of rights)
  stale_as_defined d class fit class_is =
      (fit_is d rights fit).stale
      ∙ (λ i. stale_slots d (class_is i) rights.phase (λ place. pair_in_is place i) (follows_of rights))

  -- a slot has a pair exactly where it follows a policy number
  pub used_as_followed : (place : ℕ) → is_some (pair_at place) ≡ is_some (maps.get (follows_of rights) place)
  used_as_followed place =
      ap is_some (sym (pair_in_is place)) ∙ both (maps.get rights.held place) ∙ ap is_some (sym (get-mapped (λ q (grant : Grant). followed rights.phase grant.number) rights.held place))
    where
      both : (o : Option Grant) → is_some (option_map (λ (grant : Grant). pair_for (claim_of grant)) o) ≡ is_some (option_map (λ (grant : Grant). followed rights.phase grant.number) o)
      both None = refl
      both (Some grant) = refl

-- what the look-up of a slot tells
pub use_told : (rights : Rights) (place : ℕ) → MatchOption (option_map (usable_of rights.phase) (maps.get rights.held place)) (IsUnused rights place)
    (λ (usable : Usable). (d : Decisions) → Fit d rights → IsUseOf d rights place usable)
use_told rights place = at (maps.get rights.held place) refl
  where
    claim_is : maps.get (claims_of rights) place ≡ option_map (λ (grant : Grant). claim_of grant) (maps.get rights.held place)
    claim_is = get-mapped (λ q (grant : Grant). claim_of grant) rights.held place

    following_is : maps.get (follows_of rights) place ≡ option_map (λ (grant : Grant). followed rights.phase grant.number) (maps.get rights.held place)
    following_is = get-mapped (λ q (grant : Grant). followed rights.phase grant.number) rights.held place

    at : (o : Option Grant) → maps.get rights.held place ≡ o
        → MatchOption (option_map (usable_of rights.phase) o) (IsUnused rights place) (λ (usable : Usable). (d : Decisions) → Fit d rights → IsUseOf d rights place usable)
    at None there = record {
      claim = claim_is ∙ ap (option_map (λ (grant : Grant). claim_of grant)) there;
      following = following_is ∙ ap (option_map (λ (grant : Grant). followed rights.phase grant.number)) there;
    }
    at (Some grant) there = λ d fit.
        let is = fit_is d rights fit in
        let right = is.right place grant there in
        record {
          claim = claim_is ∙ ap (option_map (λ (grant : Grant). claim_of grant)) there;
          following = following_is ∙ ap (option_map (λ (grant : Grant). followed rights.phase grant.number)) there;
          known_source = right.source;
          known_target = right.target;
          bits = λ number named follows_it.
              right.bits ∙ ap (λ version. bits_under d rights.rule rights.class version grant.s grant.t grant.mode)
              (version_followed d.versions rights.phase grant.number number is.versions follows_it);
        }
