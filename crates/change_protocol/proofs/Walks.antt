-- A walk over the managers, from a place on: what is behind is done, and what is ahead is as it was.
use Rattle.std.proofs.Common.{◌≡◌, ℕ, ◌<◌, ◌≤◌, Bool, true, List, Option}
use Rattle.std.specs.Prelude.{slice_get}
use Rattle.managed.specs.Seen.{Seen}
use Rattle.security_server.specs.Numbering.{is_in}
use Rattle.change_protocol.specs.Changes.{AreBoth, AreAll, IsTold, IsRound}
use Rattle.change_protocol.specs.declared.answers.Said.{Said}

pub record IsWalked {X : Type 0} (done : ℕ → X → X → Type 0) (first from : ℕ) (was now : ℕ → X) : Type 0 where
  pub before : (place : ℕ) → place < first → now place ≡ was place
  pub behind : (place : ℕ) → first ≤ place → place < from → done place (was place) (now place)
  pub ahead : (place : ℕ) → from ≤ place → now place ≡ was place

-- the manager at a place gives its number, and is the same
abbrev pub Given : {Manager : Type 0} → (Manager → Seen) → (Manager → Manager → Type 0) → ℕ → ℕ → Option Manager → Option Manager → Type 0
Given seen same version place was now = AreBoth (λ was now. IsTold seen version true was now × same was now) was now

-- two lists, by place
abbrev pub both_at : {A S : Type 0} → List A → List S → ℕ → (Option A × Option S)
both_at xs ss place = (slice_get xs place, slice_get ss place)

-- what stands there is related to what stood there, by what is said there
abbrev pub Told : {A S : Type 0} → (A → A → S → Type 0) → ℕ → (Option A × Option S) → (Option A × Option S) → Type 0
Told R place was now = AreAll R was.0 now.0 now.1

-- what stands at a place: a manager, what it said, and whether its receipt is in
pub record Stand (Manager : Type 0) : Type 0 where
  pub manager : Option Manager
  pub said : Option Said
  pub in_is : Bool

abbrev pub stand_at : {Manager : Type 0} → List Manager → List Said → List Bool → ℕ → Stand Manager
stand_at managers said receipts place =
    record { manager = slice_get managers place; said = slice_get said place; in_is = is_in receipts place }

-- the manager there was asked, unless its receipt was in
abbrev pub Rounds : {Manager : Type 0} → (Manager → Seen) → (Manager → Manager → Type 0) → Bool → ℕ → Stand Manager → Stand Manager → Type 0
Rounds seen same forced place was now = AreAll (IsRound seen same forced was.in_is now.in_is) was.manager now.manager now.said
