-- Which policy number a slot follows, and which slots a pending change leaves stale.
use Rattle.std.specs.Prelude.{◌≡◌, ℕ, ◌+◌, ◌*◌, Bool, false, ◌&&◌, not, ◌==◌, List, filter, Option, Some, None, if◌then◌else◌}
use Rattle.std.specs.List.{list_any}
use Rattle.std.specs.Ordering.{nat_cmp}
use Rattle.std.specs.FinMap as maps
use Rattle.std.specs.FinMap.{FinMap}
use Rattle.access_vectors.specs.Decisions.{Decisions}
use Rattle.access_vectors.specs.Mapped.{mapped}
use Rattle.access_vectors.specs.Phases.{MayName}
use Rattle.access_vectors.specs.declared.class.Class.{Class}
use Rattle.access_vectors.specs.declared.phase.Phase.{Phase}
use Rattle.access_vectors.specs.declared.phase.Phase.TheVariants.{Settled, Pending}

-- the place of a client's slot among all slots, in the order of clients and then of slots
abbrev pub slot_place : ℕ → ℕ → ℕ
slot_place client slot = 256 * client + slot

-- the policy number that each used slot follows, by its place
abbrev pub Follows : Type 0
Follows = FinMap nat_cmp ℕ

-- every used slot follows a policy number that an operation may name
abbrev pub AreNamed : Phase → Follows → Type 0
AreNamed phase follows = (place number : ℕ) → maps.get follows place ≡ Some number → MayName phase number

-- the identifiers of the client and of the object that a slot holds
pub record Pair : Type 0 where
  pub source : ℕ
  pub target : ℕ

-- a slot on that pair, which follows that number, is stale: it follows the number before the pending one, and the vectors
-- of the two versions differ on its pair
abbrev pub is_stale_pair : Decisions → Class → Phase → Option Pair → Option ℕ → Bool
is_stale_pair d class (Settled settled version) pair follows = false
is_stale_pair d class (Pending pending old new) None follows = false
is_stale_pair d class (Pending pending old new) (Some pair) None = false
is_stale_pair d class (Pending pending old new) (Some pair) (Some number) =
    number + 1 == pending && not (d.vector old pair.source pair.target class == d.vector new pair.source pair.target class)

-- the places of the stale slots, least client and then least slot first
abbrev pub stale_slots : Decisions → Class → Phase → (ℕ → Option Pair) → Follows → List ℕ
stale_slots d class phase pair_of follows = filter (λ place. is_stale_pair d class phase (pair_of place) (maps.get follows place)) (maps.keys follows)

-- the slots at those places follow the number, and the others what they did
abbrev pub now_following : List ℕ → ℕ → Follows → Follows
now_following places number follows = mapped (λ place before. if list_any (λ one. one == place) places then number else before) follows

-- every used slot follows the number
abbrev pub all_following : ℕ → Follows → Follows
all_following number follows = mapped (λ place before. number) follows

-- the slot that a call uses, if it uses one, follows that number
abbrev pub is_use_following : Option ℕ → Follows → ℕ → Bool
is_use_following None follows number = false
is_use_following (Some place) follows number = is_following (maps.get follows place)
  where
    is_following : Option ℕ → Bool
    is_following None = false
    is_following (Some followed) = followed == number
