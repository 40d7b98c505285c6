-- Sets of places as words of 64 bits, and a place that is the next of its kind.
use Rattle.std.specs.Prelude.{◌≡◌, ℕ, zero, suc, ◌+◌, ◌/◌, ◌%◌, ◌<◌, ◌≤◌, ◌==◌, Bool, true, false, List, [], ◌∷◌, ◌++◌, Option, None, Some, slice_index, if◌then◌else◌}
use Rattle.std.specs.Int.{bit_at}
use Rattle.std.specs.List.{list_any}

-- the bit at that index is set in the word
unfoldable pub has_bit : ℕ → ℕ → Bool
has_bit word index = bit_at word index == 1

-- the words hold the place: each holds 64 places in turn. Past the last word no place is held.
unfoldable pub holds : List ℕ → ℕ → Bool
holds words place = has_bit (slice_index words (place / 64)) (place % 64)

-- the places of the lowest bits of a word that are set, of which the lowest has the place `base`
unfoldable pub bits_from : ℕ → ℕ → ℕ → List ℕ
bits_from base zero word = []
bits_from base (suc count) word =
    if word % 2 == 1 then base ∷ bits_from (base + 1) count (word / 2) else bits_from (base + 1) count (word / 2)

-- the places that words hold, of which the first is `base`
unfoldable pub places_from : ℕ → List ℕ → List ℕ
places_from base [] = []
places_from base (word ∷ words) = bits_from base 64 word ++ places_from (base + 64) words

-- the places that words hold, least first
unfoldable pub places : List ℕ → List ℕ
places words = places_from 0 words

-- the number is in the list
abbrev pub among : ℕ → List ℕ → Bool
among number numbers = list_any (λ one. one == number) numbers

-- the list rises strictly, and its first number is not below the bound
abbrev pub Rises : ℕ → List ℕ → Type 0
Rises low [] = Unit {0}
Rises low (number ∷ numbers) = (low ≤ number) × Rises (number + 1) numbers

-- a place passes the test, and none from the bound up to it does
pub record IsFound (test : ℕ → Bool) (from place : ℕ) : Type 0 where
  pub above : from ≤ place
  pub passes : test place ≡ true
  pub first : (other : ℕ) → from ≤ other → other < place → test other ≡ false

-- the first place from a bound on that passes a test, or `None` exactly where none does
abbrev pub IsNext : (ℕ → Bool) → ℕ → Option ℕ → Type 0
IsNext test from None = (other : ℕ) → from ≤ other → test other ≡ false
IsNext test from (Some place) = IsFound test from place
