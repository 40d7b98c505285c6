-- Look-ups of the names of types and attributes.
use Rattle.std.specs.Prelude.{◌≡◌, ℕ, ◌<◌, ◌≤◌, true, false, List, length, Option, MatchOption}
use Rattle.std.specs.List.{All}
use Rattle.std.specs.Str.{bytes_eq}
use Rattle.std.specs.HashMap.{get}
use Rattle.policy_model.specs.declared.policy.KindLine.{KindLine}
use Rattle.policy_model.specs.declared.policy.AttributeLine.{AttributeLine}
use Rattle.policy_model.specs.declared.policy.PolicyParts.{PolicyParts}
use Rattle.policy_model.specs.declared.policy.WhoOf.{WhoOf}
use Rattle.policy_model.specs.Declarations.{is_kind, is_attribute}
use Rattle.policy_model.specs.Matching.{means, matches_source}
use Rattle.policy_versions.specs.declared.kind_set.KindSet.{KindSet}
use Rattle.policy_versions.specs.declared.kinds.Kinds.{Kinds}
use Rattle.policy_versions.specs.declared.named_sets.NamedSet.{NamedSet}
use Rattle.policy_versions.specs.Sets.{has_place}
use Rattle.policy_versions.specs.Places.{name_at, kind_at}

-- the type at a place of these has that name
pub record IsPlaceOf (kinds : List KindLine) (name : List ℕ) (place : ℕ) : Type 0 where
  pub within : place < length kinds
  pub named : name_at kinds place ≡ name

-- each of these types is found at its place, and no other name is found
abbrev pub ArePlaces : List KindLine → (List ℕ → Option ℕ) → Type 0
ArePlaces kinds found = (name : List ℕ) → MatchOption (found name) (is_kind kinds name ≡ false) (IsPlaceOf kinds name)

-- a set has the declared types that a name means, and no other declared type
abbrev pub IsSetOf : PolicyParts → List ℕ → List ℕ → Type 0
IsSetOf policy name words =
    (place : ℕ) → place < length policy.kinds → has_place words place ≡ means policy.attributes name (kind_at policy place)

-- the name is of none of these types and attributes
pub record IsUndeclared (kinds : List KindLine) (attributes : List AttributeLine) (name : List ℕ) : Type 0 where
  pub kind : is_kind kinds name ≡ false
  pub attribute : is_attribute attributes name ≡ false

-- for each of these types and attributes the set of the types that it means is found, and for no other name
abbrev pub AreSets : PolicyParts → List KindLine → List AttributeLine → (List ℕ → Option KindSet) → Type 0
AreSets policy kinds attributes found =
    (name : List ℕ) → MatchOption (found name) (IsUndeclared kinds attributes name) (λ set. IsSetOf policy name set.words)

-- sets of the types that their names mean
abbrev pub AreNamed : PolicyParts → List NamedSet → Type 0
AreNamed policy sets = All (λ named. IsSetOf policy named.name named.set.words) sets

-- a set has the declared types that a line's source matches, and no other declared type
abbrev pub IsSourceSet : PolicyParts → WhoOf (List ℕ) → List ℕ → Type 0
IsSourceSet policy who words =
    (place : ℕ) → place < length policy.kinds → has_place words place ≡ matches_source policy.attributes who (kind_at policy place)

-- no two declared types have one name
abbrev pub AreApart : List KindLine → Type 0
AreApart kinds = (s t : ℕ) → s < length kinds → t < length kinds → name_at kinds s ≡ name_at kinds t → s ≡ t

-- the look-ups of a policy: there are at most 128 types, no two of one name, each is found at its place, and each name
-- has the set of the types that it means, which some names have at first sight too
pub record AreKindsOf (policy : PolicyParts) (kinds : Kinds) : Type 0 where
  pub few : length policy.kinds ≤ 128
  pub apart : AreApart policy.kinds
  pub places : ArePlaces policy.kinds (get bytes_eq kinds.places)
  pub sets : AreSets policy policy.kinds policy.attributes (get bytes_eq kinds.sets)
  pub named : AreNamed policy kinds.named
  pub every : (place : ℕ) → place < 128 → has_place kinds.every.words place ≡ true
  pub none : (place : ℕ) → has_place kinds.none.words place ≡ false
