-- What used slots are for, whatever the policy says, and how slots that are filled, freed and moved show in that.
use Rattle.std.specs.Prelude.{◌≡◌, ℕ, Bool, false, not, ◌==◌, Option, None, Some, option_map, IsTrue, if◌then◌else◌}
use Rattle.std.specs.Ordering.{nat_cmp}
use Rattle.std.specs.FinMap as maps
use Rattle.std.specs.FinMap.{FinMap}
use Rattle.access_vectors.specs.Decisions.{Decisions}
use Rattle.access_vectors.specs.Mapped.{mapped}
use Rattle.access_vectors.specs.Phases.{version_at, MayName}
use Rattle.access_vectors.specs.Stale.{Follows, Pair}
use Rattle.access_vectors.specs.declared.class.Class.{Class}
use Rattle.retained_rights.specs.Rights.{Rights, follows_of}
use Rattle.retained_rights.specs.Rules.{ruled}
use Rattle.retained_rights.specs.declared.rule.Rule.{Rule}
use Rattle.retained_rights.specs.declared.grant.Grant.{Grant}
use Rattle.retained_rights.specs.declared.grant.Usable.{Usable}

-- what a used slot is for: an object in a mode, and the pair of the slot's client and of that object
pub record Claim : Type 0 where
  pub object : ℕ
  pub mode : ℕ
  pub s : ℕ
  pub t : ℕ

-- what used slots are for, by their places
abbrev pub Claims : Type 0
Claims = FinMap nat_cmp Claim

-- what a grant is for
abbrev pub claim_of : Grant → Claim
claim_of grant = record { object = grant.object; mode = grant.mode; s = grant.s; t = grant.t }

-- what the slots are for that hold rights
abbrev pub claims_of : Rights → Claims
claims_of rights = mapped (λ place grant. claim_of grant) rights.held

-- the pair of a claim
abbrev pub pair_for : Claim → Pair
pair_for claim = record { source = claim.s; target = claim.t }

-- the slot is for the object
abbrev pub is_for : ℕ → Option Claim → Bool
is_for object None = false
is_for object (Some claim) = claim.object == object

-- the slots that are not for the object, with what each of them has
abbrev pub not_for : {V : Type 0} → ℕ → Claims → FinMap nat_cmp V → FinMap nat_cmp V
not_for object claims slots = maps.retain_keys slots (λ place. not (is_for object (maps.get claims place)))

-- the slots for the object are for the pair with another label
abbrev pub all_relabelled : ℕ → ℕ → Claims → Claims
all_relabelled object t claims =
    mapped (λ place claim. if claim.object == object then record { object = claim.object; mode = claim.mode; s = claim.s; t = t } else claim) claims

-- the slots for the object follow the number
abbrev pub following_for : ℕ → ℕ → Claims → Follows → Follows
following_for object number claims follows = mapped (λ place before. if is_for object (maps.get claims place) then number else before) follows

-- each used slot is for what a store of objects says
abbrev pub AreClaims : (ℕ → Claim → Type 0) → Claims → Type 0
AreClaims IsClaim claims = (place : ℕ) (claim : Claim) → maps.get claims place ≡ Some claim → IsClaim place claim

-- rights are in step with a store of objects: each used slot is for what the store says, and rule and class are the store's
pub record AreInStep (rule : Rule) (class : Class) (IsClaim : ℕ → Claim → Type 0) (rights : Rights) : Type 0 where
  pub claims : AreClaims IsClaim (claims_of rights)
  pub rule_is : rights.rule ≡ rule
  pub class_is : rights.class ≡ class

-- under a decider, a use is of what the slot at the place is for, and its bits are those that the rule gives its mode under
-- the policy number which the slot follows
pub record IsUseOf (d : Decisions) (rights : Rights) (place : ℕ) (usable : Usable) : Type 0 where
  pub claim : maps.get (claims_of rights) place ≡ Some (record { object = usable.object; mode = usable.mode; s = usable.s; t = usable.t })
  pub following : maps.get (follows_of rights) place ≡ Some usable.number
  pub known_source : IsTrue (d.known usable.s)
  pub known_target : IsTrue (d.known usable.t)
  pub bits : (number : ℕ) → MayName rights.phase number → usable.number ≡ number
      → usable.bits ≡ ruled rights.rule usable.mode (d.vector (version_at rights.phase number) usable.s usable.t rights.class)

-- the slot at the place is free
pub record IsUnused (rights : Rights) (place : ℕ) : Type 0 where
  pub claim : maps.get (claims_of rights) place ≡ None
  pub following : maps.get (follows_of rights) place ≡ None
