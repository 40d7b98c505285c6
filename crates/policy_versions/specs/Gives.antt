-- What a policy's versions give, as a function of places.
use Rattle.std.specs.Prelude.{◌≡◌, ℕ, ◌<◌, length, Option}
use Rattle.access_vectors.specs.declared.class.Class.{Class}
use Rattle.policy_model.specs.declared.policy.PolicyParts.{PolicyParts}
use Rattle.policy_model.specs.declared.policy.Labelling.{Labelling}
use Rattle.policy_model.specs.Deciding.{given_kind}
use Rattle.policy_versions.specs.Places.{kind_at}
use Rattle.policy_versions.specs.Given.{IsGiven}

-- the place of the type that is given, if one is, by a line of a kind, for a version, the places of a source's and a
-- target's type, and a class
abbrev pub GivenPlaces : Type 0
GivenPlaces = Labelling → ℕ → ℕ → ℕ → Class → Option ℕ

-- for any two declared types these are the types that a policy's versions give
abbrev pub AreGiven : PolicyParts → GivenPlaces → Type 0
AreGiven policy given =
    (kind : Labelling) (version s t : ℕ) (class : Class) → s < length policy.kinds → t < length policy.kinds
    → IsGiven policy (given kind version s t class) (given_kind kind policy version (kind_at policy s) (kind_at policy t) class)

-- a version gives what another gives
abbrev pub GivesAs : GivenPlaces → ℕ → ℕ → Type 0
GivesAs given version other = (kind : Labelling) (s t : ℕ) (class : Class) → given kind version s t class ≡ given kind other s t class
