-- From one context to the next: by the type of the first and the types of all others.
use Rattle.std.specs.Prelude.{◌≡◌, ℕ, ◌<◌, ◌⊎◌, Bool, true, false, List, Some, if◌then◌else◌}
use Rattle.access_vectors.specs.declared.class.Class.{Class}
use Rattle.policy_model.specs.declared.policy.Labelling.TheVariants.{Member}
use Rattle.policy_model.specs.Deciding.{takes_after_maker}
use Rattle.policy_versions.specs.Gives.{GivenPlaces}
use Rattle.policy_versions.specs.Numbers.{is_marked, has_place, made_kind, object_row}
use Rattle.policy_versions.specs.declared.user_role.UserRole.{UserRole}
use Rattle.policy_versions.specs.declared.place.Place.{Place}

-- every marked cell stays marked
abbrev pub StayMarked : List Bool → List Bool → Type 0
StayMarked before now = (row kind : ℕ) → is_marked before row kind ≡ true → is_marked now row kind ≡ true

-- the steps have what a version gives a source and a target type in a class
pub record TakesClass (given : GivenPlaces) (version s t : ℕ) (class : Class) (own object : List Bool) : Type 0 where
  pub label : is_marked (if takes_after_maker class then own else object) s (made_kind given version s t class) ≡ true
  pub member : (kind : ℕ) → given Member version s t class ≡ Some kind → is_marked object s kind ≡ true

-- in every class
abbrev pub Takes : GivenPlaces → ℕ → ℕ → ℕ → List Bool → List Bool → Type 0
Takes given version s t own object = (class : Class) → TakesClass given version s t class own object

-- for the present targets below a bound
abbrev pub TakesTargets : GivenPlaces → List Bool → ℕ → ℕ → ℕ → List Bool → List Bool → Type 0
TakesTargets given present version s bound own object =
    (t : ℕ) → t < bound → is_marked present 0 t ≡ true → Takes given version s t own object

-- for the present sources below a bound, and all present targets
abbrev pub TakesSources : GivenPlaces → List Bool → ℕ → ℕ → List Bool → List Bool → Type 0
TakesSources given present version bound own object =
    (s : ℕ) → s < bound → is_marked present 0 s ≡ true → TakesTargets given present version s 128 own object

-- for the versions below a bound
abbrev pub TakesVersions : GivenPlaces → List Bool → ℕ → List Bool → List Bool → Type 0
TakesVersions given present bound own object = (version : ℕ) → version < bound → TakesSources given present version 128 own object

-- a version makes a step from type s, for some target of type t, to a type in the maker's own row or in the row of objects
pub record GivesOwn (given : GivenPlaces) (version s t kind : ℕ) : Type 0 where
  pub class : Class
  pub takes_after : takes_after_maker class ≡ true
  pub made : made_kind given version s t class ≡ kind

pub record GivesLabel (given : GivenPlaces) (version s t kind : ℕ) : Type 0 where
  pub class : Class
  pub takes_after : takes_after_maker class ≡ false
  pub made : made_kind given version s t class ≡ kind

pub record GivesMember (given : GivenPlaces) (version s t kind : ℕ) : Type 0 where
  pub class : Class
  pub gives : given Member version s t class ≡ Some kind

abbrev pub GivesObject : GivenPlaces → ℕ → ℕ → ℕ → ℕ → Type 0
GivesObject given version s t kind = GivesLabel given version s t kind ⊎ GivesMember given version s t kind

-- what is marked now was marked before, or the version makes that step
pub record OnlyGives (given : GivenPlaces) (version s t : ℕ) (own object own' object' : List Bool) : Type 0 where
  pub to_own : (row kind : ℕ) → row < 128 → kind < 128 → is_marked own' row kind ≡ true → (is_marked own row kind ≡ true) ⊎ ((row ≡ s) × GivesOwn given version s t kind)
  pub to_object : (row kind : ℕ) → row < 128 → kind < 128 → is_marked object' row kind ≡ true → (is_marked object row kind ≡ true) ⊎ ((row ≡ s) × GivesObject given version s t kind)

-- some version makes the step from type s for some present target
pub record IsDue (versions : ℕ) (present : List Bool) (Gives : ℕ → ℕ → Type 0) : Type 0 where
  pub version : ℕ
  pub below : version < versions
  pub target : ℕ
  pub small : target < 128
  pub is_present : is_marked present 0 target ≡ true
  pub gives : Gives version target

-- only steps are marked that some version makes for some present target
pub record AreDue (given : GivenPlaces) (versions : ℕ) (present own object : List Bool) : Type 0 where
  pub to_own : (s kind : ℕ) → s < 128 → kind < 128 → is_marked own s kind ≡ true → IsDue versions present (λ version t. GivesOwn given version s t kind)
  pub to_object : (s kind : ℕ) → s < 128 → kind < 128 → is_marked object s kind ≡ true → IsDue versions present (λ version t. GivesObject given version s t kind)

-- a place's steps to a type are followed
pub record IsFollowedTo (users : List UserRole) (own object : List Bool) (places : List Place) (place : Place) (kind : ℕ) : Type 0 where
  pub to_own : is_marked own place.kind kind ≡ true → has_place places place.row kind ≡ true
  pub to_object : is_marked object place.kind kind ≡ true → has_place places (object_row users place.row) kind ≡ true

-- a place's steps to the types below a bound are followed
abbrev pub IsFollowedBelow : List UserRole → List Bool → List Bool → List Place → Place → ℕ → Type 0
IsFollowedBelow users own object places place bound = (kind : ℕ) → kind < bound → IsFollowedTo users own object places place kind
