-- Sets of types.
use Rattle.std.specs.Prelude.{◌≡◌, ℕ, ◌<◌, ◌≤◌, Bool, false, not, ◌==◌, List, slice_index}

-- the type at that place is in the set that these words are
abbrev pub has_place : List ℕ → ℕ → Bool
has_place words place = not (slice_index words place == 0)

-- a link from a place leads on to it or to a later one, past places that are not in the set; 128 is behind all places
pub record IsLink (words : List ℕ) (place link : ℕ) : Type 0 where
  pub later : place ≤ link
  pub within : link ≤ 128
  pub none : (at : ℕ) → place ≤ at → at < link → has_place words at ≡ false

-- a link from each place, and one from behind all places
abbrev pub AreLinks : List ℕ → List ℕ → Type 0
AreLinks words links = (place : ℕ) → place < 129 → IsLink words place (slice_index links place)
