-- Cells of a row that are changed one after another.
use Rattle.std.proofs.Common.{◌≡◌, ◌≢◌, ◌∙◌, ℕ, ◌+◌, ◌<◌, ◌≤◌, Bool, true, false, cond, ltb, List, length, get_or, set, replicate, bit_and, bit_or, refl, sym, ap, arith, ⊎_elim, get_or-set_same, get_or-set_other}
use Rattle.std.specs.Prelude.{◌&&◌, ◌==◌, not}
use Rattle.policy_versions.specs.Sets.{AreLinks}
use Rattle.std.proofs.lemmas.Bool.{cases_eq, cases_lt, lt-ltb, le-ltb}
use Rattle.std.proofs.lemmas.List.{get_or-replicate, get_or_past, length-replicate}
use Rattle.std.proofs.lemmas.Nat.{le_or_l, le_or_r}
use Rattle.std.proofs.lemmas.Bool.Decides.{nat_tests}

-- the cells below a place are as after f where they pass a test, and the others are as before
abbrev pub CellsBelow : ℕ → (ℕ → Bool) → (ℕ → ℕ) → List ℕ → List ℕ → Type 0
CellsBelow limit test f before now =
    (k : ℕ) → k < 128 → get_or now k 0 ≡ cond (ltb k limit && test k) (f (get_or before k 0)) (get_or before k 0)

pub next_below : (i k : ℕ) → k ≢ i → ltb k i ≡ ltb k (i + 1)
next_below i k apart = grind (arith, nat_tests)

-- none yet
pub cells_begun : (test : ℕ → Bool) (f : ℕ → ℕ) (cells : List ℕ) → CellsBelow 0 test f cells cells
cells_begun test f cells k h = rw (le-ltb k 0 (omega arith)) refl

-- one cell more
pub cells_more : (test : ℕ → Bool) (f : ℕ → ℕ) (i cell : ℕ) (before now : List ℕ) → i < 128 → i < length now → cell ≡ cond (test i) (f (get_or now i 0)) (get_or now i 0) → CellsBelow i test f before now → CellsBelow (i + 1) test f before (set now i cell)
cells_more test f i cell before now small within is done k h =
    ⊎_elim
    (λ same.
    let last : ltb i (i + 1) ≡ true = lt-ltb i (i + 1) (omega arith) in
    let low : ltb i i ≡ false = le-ltb i i (omega arith) in
    let as_before : get_or now i 0 ≡ get_or before i 0 = done i small ∙ rw low refl in
    rw same (get_or-set_same now i cell 0 within ∙ is ∙ ap (λ x. cond (test i) (f x) x) as_before ∙ rw last refl))
    (λ apart. get_or-set_other now i k cell 0 apart ∙ done k h ∙ ap (λ b. cond (b && test k) (f (get_or before k 0)) (get_or before k 0)) (next_below i k apart))
    (cases_eq k i)

-- all cells
pub cells_all : (test : ℕ → Bool) (f : ℕ → ℕ) (i : ℕ) (before now : List ℕ) → 128 ≤ i → CellsBelow i test f before now → (k : ℕ) → k < 128 → get_or now k 0 ≡ cond (test k) (f (get_or before k 0)) (get_or before k 0)
cells_all test f i before now past done k h = done k h ∙ rw (lt-ltb k i (omega arith)) refl

-- cells that are all 0
pub zeros : (n k : ℕ) → get_or {A = ℕ} (replicate n 0) k 0 ≡ 0
zeros n k =
    ⊎_elim
    (λ low. get_or-replicate {A = ℕ} n k 0 0 low)
    (λ high. get_or_past {X = ℕ} (replicate n 0) k 0 (omega (arith, length-replicate {A = ℕ} n 0)))
    (cases_lt k n)

-- nothing in either of two vectors
or_zero : (a b : ℕ) → bit_or a b ≡ 0 → (a ≡ 0) × (b ≡ 0)
or_zero a b h = (omega (arith, le_or_l a b), omega (arith, le_or_r a b))

-- no cell so far that is in a set has any of these bits
abbrev pub MeetsNone : ℕ → (ℕ → Bool) → List ℕ → ℕ → ℕ → Type 0
MeetsNone limit test cells bits met = met ≡ 0 → (k : ℕ) → k < limit → test k ≡ true → bit_and (get_or cells k 0) bits ≡ 0

-- one cell more
pub meets_more : (i : ℕ) (test : ℕ → Bool) (cells : List ℕ) (bits met here : ℕ) → (test i ≡ true → here ≡ bit_and (get_or cells i 0) bits) → MeetsNone i test cells bits met → MeetsNone (i + 1) test cells bits (bit_or met here)
meets_more i test cells bits met here is none zero k low has =
    let parts = or_zero met here zero in
    ⊎_elim
    (λ same. rw same (sym (is (rw same at has)) ∙ parts.1))
    (λ apart. none parts.0 k (omega arith) has)
    (cases_eq k i)

-- with no type in a set each link leads behind all places
pub no_links : AreLinks (replicate 128 0) (replicate 129 128)
no_links place h =
    let is : get_or {A = ℕ} (replicate 129 128) place 0 ≡ 128 = get_or-replicate {A = ℕ} 129 place 128 0 h in
    record { later = omega arith; within = omega arith; none = λ at low high. ap (λ word. not (word == 0)) (zeros 128 at) }
