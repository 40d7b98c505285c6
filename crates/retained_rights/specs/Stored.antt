-- Grants in a store, which finds them by slot, by object and by pair.
use Rattle.std.specs.Prelude.{◌≡◌, ℕ, ◌+◌, ◌*◌, ◌<◌, ◌≤◌, ◌==◌, ◌/◌, ◌%◌, not, ◌⊎◌, Bool, true, false, List, length, is_some, IsTrue, Option, None, Some}
use Rattle.std.specs.Ordering.{nat_cmp}
use Rattle.std.specs.FinMap as maps
use Rattle.std.specs.FinMap.{FinMap}
use Rattle.access_vectors.specs.Decisions.{Decisions}
use Rattle.access_vectors.specs.Phases.{number_of}
use Rattle.access_vectors.specs.declared.class.Class.{Class}
use Rattle.access_vectors.specs.declared.phase.Phase.{Phase}
use Rattle.slot_tables.specs.Words.{has_bit, holds, IsFound}
use Rattle.slot_tables.specs.Rows.{on, has_row}
use Rattle.retained_rights.specs.declared.grant.Grant.{Grant}
use Rattle.retained_rights.specs.Rights.{is_on}

-- what contracts see of a store: the grants by the places of their slots, the words that hold the stale places, and the rows
-- of the index by pair
pub record Stored : Type 0 where
  pub held : FinMap nat_cmp Grant
  pub words : List ℕ
  pub pairs : List (ℕ × ℕ)

-- the number by which the index knows a pair of identifiers, which are below 4,096
abbrev pub pair_name : ℕ → ℕ → ℕ
pair_name s t = 4096 * s + t

-- the slot holds a grant on the pair of that number
abbrev pub has_pair : ℕ → Option Grant → Bool
has_pair name None = false
has_pair name (Some grant) = pair_name grant.s grant.t == name

-- the indexes say of each place what its slot holds, and for each grant there is room among the stale places
pub record IsIndexed (held : FinMap nat_cmp Grant) (words : List ℕ) (pairs objects : List (ℕ × ℕ)) : Type 0 where
  pub by_pair : (name place : ℕ) → on pairs name place ≡ has_pair name (maps.get held place)
  pub by_object : (name place : ℕ) → on objects name place ≡ is_on name (maps.get held place)
  pub room : (place : ℕ) (grant : Grant) → maps.get held place ≡ Some grant → place < 64 * length words

-- the index by pair has a row for each slot on the object, under its client's identifier with t
abbrev pub HaveRows : FinMap nat_cmp Grant → List (ℕ × ℕ) → ℕ → ℕ → Type 0
HaveRows held pairs object t =
    (place : ℕ) (grant : Grant) → place < 65536 → maps.get held place ≡ Some grant → grant.object ≡ object → has_row pairs (pair_name grant.s t) place ≡ true

-- a grant with its label, bits and number replaced
abbrev pub rewritten : Grant → ℕ → ℕ → ℕ → Grant
rewritten grant t bits number =
    record { object = grant.object; s = grant.s; t = t; mode = grant.mode; bits = bits; number = number }

-- the pair of each grant is the decider's
abbrev pub AreKnown : Decisions → FinMap nat_cmp Grant → Type 0
AreKnown d held =
    (place : ℕ) (grant : Grant) → maps.get held place ≡ Some grant → IsTrue (d.known grant.s) × IsTrue (d.known grant.t)

-- the slot holds a grant whose pair has other vectors in a version than in another
abbrev pub is_changed : Decisions → Class → ℕ → ℕ → Option Grant → Bool
is_changed d class old new None = false
is_changed d class old new (Some grant) = not (d.vector old grant.s grant.t class == d.vector new grant.s grant.t class)

-- the first slot from a bound on that passes the test, with its grant, or `None` exactly where no slot passes
abbrev pub IsNextGrant : FinMap nat_cmp Grant → (ℕ → Bool) → ℕ → Option (ℕ × Grant) → Type 0
IsNextGrant held test from None = (other : ℕ) → from ≤ other → test other ≡ false
IsNextGrant held test from (Some found) =
    IsFound test from found.0 × (maps.get held found.0 ≡ Some found.1) × (found.0 < 65536)

-- the same where at most so many more are wanted: `None` also where no more are
abbrev pub IsNextDue : FinMap nat_cmp Grant → (ℕ → Bool) → ℕ → ℕ → Option (ℕ × Grant) → Type 0
IsNextDue held test from left None = (left ≡ 0) ⊎ ((other : ℕ) → from ≤ other → test other ≡ false)
IsNextDue held test from left (Some found) =
    (0 < left) × IsFound test from found.0 × (maps.get held found.0 ≡ Some found.1) × (found.0 < 65536)

-- each stale slot holds a grant
abbrev pub AreListed : FinMap nat_cmp Grant → List ℕ → Type 0
AreListed held words =
    (place : ℕ) → holds words place ≡ true → is_some (maps.get held place) ≡ true

-- a row says which places of its block hold a grant on its pair
abbrev pub IsRowOf : FinMap nat_cmp Grant → ℕ → ℕ → Type 0
IsRowOf held key word =
    (place : ℕ) → place / 64 ≡ key % 1024 → has_bit word (place % 64) ≡ has_pair (key / 1024) (maps.get held place)

-- a row of the index by pair has no slot, or a slot that holds the grant
abbrev pub IsGrantInRow : FinMap nat_cmp Grant → ℕ → ℕ → Option Grant → Type 0
IsGrantInRow held key word None = (index : ℕ) → index < 64 → has_bit word index ≡ false
IsGrantInRow held key word (Some grant) =
    (place : ℕ) × (place / 64 ≡ key % 1024) × (has_bit word (place % 64) ≡ true) × (maps.get held place ≡ Some grant)

-- no grant's bits were got under a number above the newest
abbrev pub AreNumbered : Phase → FinMap nat_cmp Grant → Type 0
AreNumbered phase held = (place : ℕ) (grant : Grant) → maps.get held place ≡ Some grant → grant.number ≤ number_of phase
