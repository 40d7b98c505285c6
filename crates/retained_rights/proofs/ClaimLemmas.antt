-- How a change of the grants shows in what the slots are for, and in the policy numbers that they follow.
use Rattle.std.proofs.Common.{◌≡◌, ℕ, ◌-◌, ◌<◌, ◌≤◌, Bool, true, false, not, List, Option, None, Some, refl, sym, ap, ◌∙◌, arith}
use Rattle.std.specs.Prelude.{option_map, ◌==◌, if◌then◌else◌}
use Rattle.std.specs.List.{list_any}
use Rattle.std.specs.Ordering.{nat_cmp}
use Rattle.std.specs.FinMap as maps
use Rattle.std.specs.FinMap.{FinMap}
use Rattle.access_vectors.specs.Decisions.{Decisions}
use Rattle.access_vectors.specs.Mapped.{mapped}
use Rattle.access_vectors.specs.Phases.{MayName, number_of, is_pending}
use Rattle.access_vectors.specs.Stale.{Follows, now_following, all_following}
use Rattle.access_vectors.specs.declared.class.Class.{Class}
use Rattle.access_vectors.specs.declared.phase.Phase.{Phase}
use Rattle.access_vectors.specs.declared.phase.Phase.TheVariants.{Settled, Pending}
use Rattle.access_vectors.proofs.MappedLemmas.{get-mapped}
use Rattle.retained_rights.specs.declared.rule.Rule.{Rule}
use Rattle.retained_rights.specs.declared.grant.Grant.{Grant}
use Rattle.retained_rights.specs.Rights.{followed, is_on, without_object, moved, all_moved, revised, all_revised}
use Rattle.retained_rights.specs.Claims.{Claim, Claims, claim_of, is_for, not_for, all_relabelled, following_for}
use Rattle.retained_rights.specs.Stored.{AreNumbered}
use Rattle.retained_rights.proofs.MapLemmas.{mapped-insert, mapped-retain_keys, mapped-mapped, mapped_alike}
use Rattle.retained_rights.proofs.Following.{followed_is, not_pending, followed_newest}

-- what the slots are for, and which numbers they follow in a phase
abbrev pub claims_in : FinMap nat_cmp Grant → Claims
claims_in held = mapped (λ place grant. claim_of grant) held

abbrev pub follows_in : Phase → FinMap nat_cmp Grant → Follows
follows_in phase held = mapped (λ place grant. followed phase grant.number) held

-- a slot filled
pub follows_put : (phase : Phase) (held : FinMap nat_cmp Grant) (place : ℕ) (grant : Grant) → MayName phase grant.number
    → follows_in phase (maps.insert held place grant) ≡ maps.insert (follows_in phase held) place grant.number
follows_put phase held place grant named =
    mapped-insert _ held place grant ∙ ap (maps.insert (follows_in phase held) place) (followed_is phase grant.number named)

-- the test of a slot's grant is that of what the slot is for
for_on : (object : ℕ) (held : FinMap nat_cmp Grant) (place : ℕ) → is_for object (maps.get (claims_in held) place) ≡ is_on object (maps.get held place)
for_on object held place = ap (is_for object) (get-mapped (λ q (grant : Grant). claim_of grant) held place) ∙ at (maps.get held place)
  where
    at : (o : Option Grant) → is_for object (option_map (λ (grant : Grant). claim_of grant) o) ≡ is_on object o
    at None = refl
    at (Some grant) = refl

-- the object's slots freed
pub mapped_without : {V : Type 0} (f : ℕ → Grant → V) (object : ℕ) (held : FinMap nat_cmp Grant) → mapped f (without_object object held) ≡ not_for object (claims_in held) (mapped f held)
mapped_without f object held =
    mapped-retain_keys f held (λ place. not (is_on object (maps.get held place)))
    ∙ (λ i. maps.retain_keys (mapped f held) (λ place. not (sym (for_on object held place) i)))

module _ (d : Decisions) (rule : Rule) (class : Class) (version object t number : ℕ) where
  -- the object's slots with another label
  pub claims_moved : (held : FinMap nat_cmp Grant) → claims_in (all_moved d rule class version object t number held) ≡ all_relabelled object t (claims_in held)
  claims_moved held =
      mapped-mapped _ _ held ∙ (λ i. mapped (λ place grant. same grant (grant.object == object) i) held) ∙ sym (mapped-mapped _ _ held)
    where
      same : (grant : Grant) (b : Bool) → claim_of (if b then moved d rule class version t number grant else grant)
          ≡ (if b then record { object = grant.object; mode = grant.mode; s = grant.s; t = t } else claim_of grant)
      same grant true = refl
      same grant false = refl

  pub follows_moved : (phase : Phase) (held : FinMap nat_cmp Grant) → MayName phase number
      → follows_in phase (all_moved d rule class version object t number held) ≡ following_for object number (claims_in held) (follows_in phase held)
  follows_moved phase held named =
      mapped-mapped _ _ held
      ∙ mapped_alike _ _ held (λ place grant at. same grant (grant.object == object)
      ∙ ap (λ b. if b then number else followed phase grant.number) (sym (for_on object held place ∙ ap (is_on object) at)))
      ∙ sym (mapped-mapped _ _ held)
    where
      same : (grant : Grant) (b : Bool) → followed phase (if b then moved d rule class version t number grant else grant).number ≡ (if b then number else followed phase grant.number)
      same grant true = followed_is phase number named
      same grant false = refl

module _ (d : Decisions) (rule : Rule) (class : Class) (version : ℕ) (places : List ℕ) where
  -- a revision
  pub claims_revised : (number : ℕ) (held : FinMap nat_cmp Grant) → claims_in (all_revised d rule class version number places held) ≡ claims_in held
  claims_revised number held =
      mapped-mapped _ _ held ∙ (λ i. mapped (λ place grant. same grant (list_any (λ one. one == place) places) i) held)
    where
      same : (grant : Grant) (b : Bool) → claim_of (if b then revised d rule class version number grant else grant) ≡ claim_of grant
      same grant true = refl
      same grant false = refl

  pub follows_revised : (phase : Phase) (held : FinMap nat_cmp Grant) → is_pending phase ≡ true
      → follows_in phase (all_revised d rule class version (number_of phase) places held) ≡ now_following places (number_of phase) (follows_in phase held)
  follows_revised phase held pending =
      mapped-mapped _ _ held ∙ (λ i. mapped (λ place grant. same grant (list_any (λ one. one == place) places) i) held) ∙ sym (mapped-mapped _ _ held)
    where
      same : (grant : Grant) (b : Bool) → followed phase (if b then revised d rule class version (number_of phase) grant else grant).number
          ≡ (if b then number_of phase else followed phase grant.number)
      same grant true = followed_newest phase pending
      same grant false = refl

-- where a change begins the slots follow what they did
pub follows_started : (held : FinMap nat_cmp Grant) (number old new : ℕ) → 0 < number → AreNumbered (Settled (number - 1) old) held
    → follows_in (Pending number old new) held ≡ follows_in (Settled (number - 1) old) held
follows_started held number old new some numbered =
    mapped_alike _ _ held (λ place grant at. not_pending grant.number number some (numbered place grant at))

-- after a change every slot follows its number
pub follows_settled : (number old new : ℕ) (held : FinMap nat_cmp Grant) → follows_in (Settled number new) held ≡ all_following number (follows_in (Pending number old new) held)
follows_settled number old new held = sym (mapped-mapped _ _ held)
