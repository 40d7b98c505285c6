-- Sets of contexts by numbers, in the order in which they were found.
use Rattle.std.specs.Prelude.{◌≡◌, ℕ, ◌*◌, ◌<◌, ◌≤◌, Bool, true, false, ◌==◌, List, length, slice_index_or}
use Rattle.std.specs.List.{All, IsDistinct, list_any, list_all}
use Rattle.policy_versions.specs.Numbers.{is_place, has_place, is_marked, object_row}
use Rattle.policy_versions.specs.Steps.{IsFollowedBelow}
use Rattle.policy_versions.specs.declared.user_role.UserRole.{UserRole}
use Rattle.policy_versions.specs.declared.place.Place.{Place}

-- places in that many rows
pub record Reached : Type 0 where
  pub rows : ℕ
  pub places : List Place

-- the same place
abbrev pub is_same_place : Place → Place → Bool
is_same_place a b = is_place a.row a.kind b

-- a place of that many rows
pub record IsInside (rows : ℕ) (place : Place) : Type 0 where
  pub row : place.row < rows
  pub kind : place.kind < 128

-- places of that many rows: all different, no more than there are identifiers, and marked, and nothing else is
pub record IsReached (rows : ℕ) (places : List Place) (marks : List Bool) : Type 0 where
  pub sized : length marks ≡ rows * 128
  pub few : length places ≤ 4095
  pub inside : All (IsInside rows) places
  pub distinct : IsDistinct is_same_place places
  pub shows : (row kind : ℕ) → kind < 128 → is_marked marks row kind ≡ has_place places row kind

-- some place has the type
unfoldable pub has_kind : List Place → ℕ → Bool
has_kind places kind = list_any (λ place. place.kind == kind) places

-- the types of all places are marked
unfoldable pub are_present : List Bool → List Place → Bool
are_present present places = list_all (λ place. is_marked present 0 place.kind) places

-- steps lead from places to a row and a type
pub data Leads (users : List UserRole) (own object : List Bool) (start : List Place) : ℕ → ℕ → Type 0 where
  begun : (row kind : ℕ) → has_place start row kind ≡ true → Leads users own object start row kind
  to_own : (row s kind : ℕ) → Leads users own object start row s → kind < 128 → is_marked own s kind ≡ true → Leads users own object start row kind
  to_object : (row s kind : ℕ) → Leads users own object start row s → kind < 128 → is_marked object s kind ≡ true → Leads users own object start (object_row users row) kind

-- steps lead from places to each of these
abbrev pub AllLed : List UserRole → List Bool → List Bool → List Place → List Place → Type 0
AllLed users own object start places = All (λ place. Leads users own object start place.row place.kind) places

-- the steps from the first places are followed
abbrev pub AreFollowed : List UserRole → List Bool → List Bool → List Place → ℕ → Type 0
AreFollowed users own object places bound = (k : ℕ) (d : Place) → k < bound → IsFollowedBelow users own object places (slice_index_or places k d) 128

-- there are as many places as identifiers, all different and of that many rows, and this is one more
pub record IsFullFor (rows : ℕ) (places : List Place) (row kind : ℕ) : Type 0 where
  pub full : length places ≡ 4095
  pub inside : All (IsInside rows) places
  pub distinct : IsDistinct is_same_place places
  pub new : has_place places row kind ≡ false

-- there are as many places as identifiers, and steps lead to one more
pub record Overflows (users : List UserRole) (own object : List Bool) (start places : List Place) : Type 0 where
  pub row : ℕ
  pub kind : ℕ
  pub within : row < length users
  pub small : kind < 128
  pub led : Leads users own object start row kind
  pub full : IsFullFor (length users) places row kind
