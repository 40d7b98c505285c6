-- What names have after a row is written, and the next place of a name.
use Rattle.std.proofs.Common.{◌≡◌, ℕ, ◌+◌, ◌-◌, ◌*◌, ◌/◌, ◌%◌, ◌^◌, ◌<◌, ◌≤◌, Bool, true, false, cond, not, ◌&&◌, ◌||◌, eqb, ltb, List, [], bit_and, bit_or, Option, None, Some, refl, sym, ap, subst, ◌∙◌, inl, inr, arith, w64}
use Rattle.std.specs.Option.{unwrap_or, is_some}
use Rattle.std.proofs.Common.{Result, Ok, Err, OnOk, OnErr}
use lib.Bits.{and_zero_l}
use Rattle.std.specs.Int.{bit_not, trailing_zeros}
use Rattle.std.specs.Ordering.{nat_cmp}
use Rattle.std.specs.Cmp.{unsigned_tied}
use Rattle.std.specs.BTreeMap.{is_at}
use Rattle.std.proofs.lemmas.Bool.{cases_eq, cases_lt, eq-eqb, ne_eqb, lt-ltb, le-ltb, false≢true, true≢false}
use Rattle.slot_tables.specs.Words.{has_bit, IsFound}
use Rattle.slot_tables.specs.Rows.{row_at, row_key, on, has_row, IsFirstRow}
use Rattle.slot_tables.proofs.BitLemmas.{has_bit-put, has_bit-clear, has_bit-zero, has_bit-shifted, lowest_is}
use Rattle.slot_tables.proofs.SetLemmas.{has_bit-above}
use Rattle.std.proofs.Math.Nat.{div-le_self}

-- the word at a key, which is 0 where there is no row
abbrev pub word_of : List (ℕ × ℕ) → ℕ → ℕ
word_of rows key = unwrap_or (row_at rows key) 0

-- a call that fails only where that cannot be has not failed
pub cannot_fail : {A B P Q : Type 0} (r : Result A B) → OnErr r Q → (Q → ⊥) → OnOk r P → P
cannot_fail (Ok x) failed never done = done
cannot_fail (Err e) failed never done = absurd (never failed)

none_or_some : {A : Type 0} (o : Option A) → is_some o ≡ true → o ≡ None → ⊥
none_or_some o some none = false≢true (sym (ap is_some none) ∙ some)

-- what a map says of look-ups after a change at one key
abbrev pub Changed : List (ℕ × ℕ) → List (ℕ × ℕ) → ℕ → Option ℕ → Type 0
Changed rows new key word = (q : ℕ) → row_at new q ≡ cond (is_at (nat_cmp key) q) word (row_at rows q)

pub changed_at : (rows new : List (ℕ × ℕ)) (key other : ℕ) (word : Option ℕ) → key ≡ other → Changed rows new key word → Changed rows new other word
changed_at rows new key other word same changed = subst (λ k. Changed rows new k word) same changed

-- two changes at one key are the later one
pub changed_twice : (rows between new : List (ℕ × ℕ)) (key : ℕ) (first word : Option ℕ) → Changed rows between key first → Changed between new key word → Changed rows new key word
changed_twice rows between new key first word before after q =
    after q ∙ ap (cond (is_at (nat_cmp key) q) word) (before q)
    ∙ elim (is_at (nat_cmp key) q) as (λ t. cond t word (cond t first (row_at rows q)) ≡ cond t word (row_at rows q)) [ true ↦ refl | false ↦ refl ]

-- the rows are as before but for one key, which has another word
abbrev pub Written : List (ℕ × ℕ) → List (ℕ × ℕ) → ℕ → ℕ → Type 0
Written rows new key word = (other : ℕ) → word_of new other ≡ cond (eqb key other) word (word_of rows other)

-- from what an insertion says of look-ups
pub written-put : (rows new : List (ℕ × ℕ)) (key word : ℕ) → ((q : ℕ) → row_at new q ≡ cond (is_at (nat_cmp key) q) (Some word) (row_at rows q)) → Written rows new key word
written-put rows new key word put other =
    ap (λ o. unwrap_or o 0) (put other ∙ ap (λ t. cond t (Some word) (row_at rows other)) (unsigned_tied key other))
    ∙ elim (eqb key other) as (λ t. unwrap_or (cond t (Some word) (row_at rows other)) 0 ≡ cond t word (word_of rows other)) [ true ↦ refl | false ↦ refl ]

pub written-taken : (rows new : List (ℕ × ℕ)) (key : ℕ) → ((q : ℕ) → row_at new q ≡ cond (is_at (nat_cmp key) q) None (row_at rows q)) → Written rows new key 0
written-taken rows new key put other =
    ap (λ o. unwrap_or o 0) (put other ∙ ap (λ t. cond t None (row_at rows other)) (unsigned_tied key other))
    ∙ elim (eqb key other) as (λ t. unwrap_or (cond t None (row_at rows other)) 0 ≡ cond t 0 (word_of rows other)) [ true ↦ refl | false ↦ refl ]

on-is : (rows : List (ℕ × ℕ)) (name q : ℕ) → on rows name q ≡ (ltb q 65536 && has_bit (word_of rows (row_key name q)) (q % 64))
unfolding on
on-is rows name q = refl

-- a name has a place below 65,536 by the bit in its row
pub on-inside : (rows : List (ℕ × ℕ)) (name q : ℕ) → q < 65536 → on rows name q ≡ has_bit (word_of rows (row_key name q)) (q % 64)
on-inside rows name q small = on-is rows name q ∙ ap (λ t. t && has_bit (word_of rows (row_key name q)) (q % 64)) (lt-ltb q 65536 small)

-- and no other
pub on-outside : (rows : List (ℕ × ℕ)) (name q : ℕ) → 65536 ≤ q → on rows name q ≡ false
on-outside rows name q large = on-is rows name q ∙ ap (λ t. t && has_bit (word_of rows (row_key name q)) (q % 64)) (le-ltb q 65536 large)

and_false : (b : Bool) → (b && false) ≡ false
and_false true = refl
and_false false = refl

-- the row that is written says of its name and block what its new word says, and all others are as before
on-written : (rows new : List (ℕ × ℕ)) (name place word : ℕ) → place < 65536 → Written rows new (row_key name place) word
    → (n q : ℕ) → q < 65536 → on new n q ≡ cond (eqb (row_key name place) (row_key n q)) (has_bit word (q % 64)) (on rows n q)
on-written rows new name place word small written n q below =
    on-inside new n q below ∙ ap (λ w. has_bit w (q % 64)) (written (row_key n q))
    ∙ elim (eqb (row_key name place) (row_key n q)) as (λ t. has_bit (cond t word (word_of rows (row_key n q))) (q % 64) ≡ cond t (has_bit word (q % 64)) (on rows n q)) [
      | true ↦ refl
      | false ↦ sym (on-inside rows n q below)
    ]

module _ (rows new : List (ℕ × ℕ)) (name place word : ℕ) (small : place < 65536) (is : word ≡ word_of rows (row_key name place)) where
  in_row : (n q : ℕ) → q < 65536 → row_key name place ≡ row_key n q → has_bit word (q % 64) ≡ on rows n q
  in_row n q below same = ap (λ w. has_bit w (q % 64)) (is ∙ ap (word_of rows) same) ∙ sym (on-inside rows n q below)

  here : (n q : ℕ) → q < 65536 → row_key name place ≡ row_key n q → (eqb n name && eqb q place) ≡ eqb (q % 64) (place % 64)
  here n q below same =
      let name_is : n ≡ name = omega arith in
      let block : q / 64 ≡ place / 64 = omega arith in
      ap (λ t. t && eqb q place) (eq-eqb n name name_is) ∙ elim (cases_eq q place) [
        | inl at ↦ eq-eqb q place at ∙ sym (eq-eqb _ _ (ap (λ x. x % 64) at))
        | inr off ↦ ne_eqb q place off ∙ sym (ne_eqb _ _ (λ rest. off (omega arith)))
      ]

  elsewhere : (n q : ℕ) → (row_key name place ≡ row_key n q → ⊥) → (eqb n name && eqb q place) ≡ false
  elsewhere n q apart = elim (cases_eq n name) [
    | inl same ↦ ap (λ t. t && eqb q place) (eq-eqb n name same) ∙ ne_eqb q place (λ at. apart (omega arith))
    | inr off ↦ ap (λ t. t && eqb q place) (ne_eqb n name off)
  ]

  -- the place given to the name
  pub on-added : Written rows new (row_key name place) (bit_or word (1 * 2 ^ (place % 64) % 2 ^ 64))
      → (n q : ℕ) → on new n q ≡ ((eqb n name && eqb q place) || on rows n q)
  on-added written n q = elim (cases_lt q 65536) [
    | inl below ↦ on-written rows new name place _ small written n q below ∙ inside below
    | inr large ↦ on-outside new n q large ∙ sym (ap (λ t. (eqb n name && t) || on rows n q) (ne_eqb q place (λ at. omega arith))
        ∙ ap (λ t. t || on rows n q) (and_false (eqb n name)) ∙ on-outside rows n q large)
  ]
    where
      inside : q < 65536 → cond (eqb (row_key name place) (row_key n q)) (has_bit (bit_or word (1 * 2 ^ (place % 64) % 2 ^ 64)) (q % 64)) (on rows n q) ≡ ((eqb n name && eqb q place) || on rows n q)
      inside below = elim (cases_eq (row_key name place) (row_key n q)) [
        | inl same ↦ ap (λ t. cond t (has_bit (bit_or word (1 * 2 ^ (place % 64) % 2 ^ 64)) (q % 64)) (on rows n q)) (eq-eqb _ _ same)
            ∙ has_bit-put word (place % 64) (q % 64) (omega arith) ∙ ap (λ t. t || has_bit word (q % 64)) (sym (here n q below same)) ∙ ap (λ t. (eqb n name && eqb q place) || t) (in_row n q below same)
        | inr apart ↦ ap (λ t. cond t (has_bit (bit_or word (1 * 2 ^ (place % 64) % 2 ^ 64)) (q % 64)) (on rows n q)) (ne_eqb _ _ apart)
            ∙ sym (ap (λ t. t || on rows n q) (elsewhere n q apart))
      ]

  -- the place taken from the name
  pub on-removed : Written rows new (row_key name place) (bit_and word (bit_not w64 (1 * 2 ^ (place % 64) % 2 ^ 64)))
      → (n q : ℕ) → on new n q ≡ (not (eqb n name && eqb q place) && on rows n q)
  on-removed written n q = elim (cases_lt q 65536) [
    | inl below ↦ on-written rows new name place _ small written n q below ∙ inside below
    | inr large ↦ on-outside new n q large ∙ sym (ap (λ t. not (eqb n name && eqb q place) && t) (on-outside rows n q large) ∙ and_false _)
  ]
    where
      inside : q < 65536 → cond (eqb (row_key name place) (row_key n q)) (has_bit (bit_and word (bit_not w64 (1 * 2 ^ (place % 64) % 2 ^ 64))) (q % 64)) (on rows n q)
          ≡ (not (eqb n name && eqb q place) && on rows n q)
      inside below = elim (cases_eq (row_key name place) (row_key n q)) [
        | inl same ↦ ap (λ t. cond t (has_bit (bit_and word (bit_not w64 (1 * 2 ^ (place % 64) % 2 ^ 64))) (q % 64)) (on rows n q)) (eq-eqb _ _ same)
            ∙ has_bit-clear word (place % 64) (q % 64) (omega arith) (omega arith) ∙ ap (λ t. not t && has_bit word (q % 64)) (sym (here n q below same))
            ∙ ap (λ t. not (eqb n name && eqb q place) && t) (in_row n q below same)
        | inr apart ↦ ap (λ t. cond t (has_bit (bit_and word (bit_not w64 (1 * 2 ^ (place % 64) % 2 ^ 64))) (q % 64)) (on rows n q)) (ne_eqb _ _ apart)
            ∙ sym (ap (λ t. not t && on rows n q) (elsewhere n q apart))
      ]

-- a row written with its own word changes nothing
pub on-same : (rows new : List (ℕ × ℕ)) (key : ℕ) → Written rows new key (word_of rows key) → (n q : ℕ) → on new n q ≡ on rows n q
on-same rows new key written n q =
    on-is new n q ∙ ap (λ w. ltb q 65536 && has_bit w (q % 64)) (written (row_key n q) ∙ elim (cases_eq key (row_key n q)) [
      | inl same ↦ ap (λ t. cond t (word_of rows key) (word_of rows (row_key n q))) (eq-eqb _ _ same) ∙ ap (word_of rows) same
      | inr apart ↦ ap (λ t. cond t (word_of rows key) (word_of rows (row_key n q))) (ne_eqb _ _ apart)
    ]) ∙ sym (on-is rows n q)

-- ---- which rows there are

pub has_row-put : (rows new : List (ℕ × ℕ)) (key word : ℕ) → ((q : ℕ) → row_at new q ≡ cond (is_at (nat_cmp key) q) (Some word) (row_at rows q))
    → (n q : ℕ) → has_row rows n q ≡ true → has_row new n q ≡ true
unfolding has_row
has_row-put rows new key word put n q has =
    ap is_some (put (row_key n q)) ∙ elim (is_at (nat_cmp key) (row_key n q)) as (λ t. is_some (cond t (Some word) (row_at rows (row_key n q))) ≡ true) [ true ↦ refl | false ↦ has ]

pub has_row-made : (rows new : List (ℕ × ℕ)) (name place word : ℕ) → ((q : ℕ) → row_at new q ≡ cond (is_at (nat_cmp (row_key name place)) q) (Some word) (row_at rows q))
    → has_row new name place ≡ true
unfolding has_row
has_row-made rows new name place word put =
    ap is_some (put (row_key name place) ∙ ap (λ t. cond t (Some word) (row_at rows (row_key name place))) (unsigned_tied _ _ ∙ eq-eqb (row_key name place) (row_key name place) refl))

pub has_row-taken : (rows new : List (ℕ × ℕ)) (name place : ℕ) → place < 65536 → ((q : ℕ) → row_at new q ≡ cond (is_at (nat_cmp (row_key name place)) q) None (row_at rows q))
    → (n q : ℕ) → q < 65536 → (n ≡ name → ⊥) → has_row rows n q ≡ true → has_row new n q ≡ true
unfolding has_row
has_row-taken rows new name place small put n q below apart has =
    ap is_some (put (row_key n q) ∙ ap (λ t. cond t None (row_at rows (row_key n q))) (unsigned_tied _ _ ∙ ne_eqb (row_key name place) (row_key n q) (λ same. apart (omega arith)))) ∙ has

-- a row that is there
pub has_row-is : (rows : List (ℕ × ℕ)) (name place : ℕ) → has_row rows name place ≡ is_some (row_at rows (row_key name place))
unfolding has_row
has_row-is rows name place = refl

-- where there is no row its word is 0
pub word_of-none : (rows : List (ℕ × ℕ)) (key : ℕ) → row_at rows key ≡ None → word_of rows key ≡ 0
word_of-none rows key none = ap (λ o. unwrap_or o 0) none

-- a row that is there is found
pub row_found : (rows : List (ℕ × ℕ)) (name place key : ℕ) → key ≡ row_key name place → has_row rows name place ≡ true → row_at rows key ≡ None → ⊥
row_found rows name place key same has none = none_or_some (row_at rows (row_key name place)) (sym (has_row-is rows name place) ∙ has) (ap (row_at rows) (sym same) ∙ none)

pub none_from_absent : {A : Type 0} (o : Option A) → is_some o ≡ false → o ≡ None
none_from_absent None absent = refl
none_from_absent (Some x) absent = absurd (true≢false absent)

pub written_as : (rows new : List (ℕ × ℕ)) (key word other : ℕ) → word ≡ other → Written rows new key word → Written rows new key other
written_as rows new key word other same written = subst (λ w. Written rows new key w) same written

and_zero : (mask : ℕ) → bit_and 0 mask ≡ 0
and_zero mask = and_zero_l mask

-- a word of which some bit is left stands in a row
pub row_of_word : (rows : List (ℕ × ℕ)) (key word mask : ℕ) → word ≡ word_of rows key → (bit_and word mask ≡ 0 → ⊥) → row_at rows key ≡ None → ⊥
row_of_word rows key word mask is some none = some (ap (λ w. bit_and w mask) (is ∙ word_of-none rows key none) ∙ and_zero mask)

written-none : (rows : List (ℕ × ℕ)) (key : ℕ) → row_at rows key ≡ None → Written rows rows key 0
written-none rows key none other = elim (cases_eq key other) [
  | inl same ↦ ap (word_of rows) (sym same) ∙ word_of-none rows key none ∙ sym (ap (λ t. cond t 0 (word_of rows other)) (eq-eqb key other same))
  | inr apart ↦ sym (ap (λ t. cond t 0 (word_of rows other)) (ne_eqb key other apart))
]

-- nothing is taken from a name that has no row
pub on-missing : (rows : List (ℕ × ℕ)) (name place key : ℕ) → place < 65536 → key ≡ row_key name place → row_at rows key ≡ None
    → (n q : ℕ) → on rows n q ≡ (not (eqb n name && eqb q place) && on rows n q)
on-missing rows name place key small same none =
    let gone : row_at rows (row_key name place) ≡ None = ap (row_at rows) (sym same) ∙ none in
    on-removed rows rows name place 0 small (sym (word_of-none rows (row_key name place) gone))
    (written_as rows rows (row_key name place) 0 _ (sym (and_zero (bit_not w64 (1 * 2 ^ (place % 64) % 2 ^ 64)))) (written-none rows (row_key name place) gone))

-- ---- the next place of a name

shifted_small : (word by : ℕ) → word < 2 ^ 64 → word / 2 ^ by < 2 ^ 64
shifted_small word by small = omega (arith, div-le_self word (2 ^ by))

below_width : (word index : ℕ) → word < 2 ^ 64 → has_bit word index ≡ true → index < 64
below_width word index small has = elim (cases_lt index 64) [
  | inl less ↦ less
  | inr more ↦ absurd (true≢false (sym has ∙ has_bit-above word index small more))
]

-- the name has no place from a bound on in the rows below a key
pub record IsPassed (rows : List (ℕ × ℕ)) (name from low : ℕ) : Type 0 where
  pub above : row_key name from ≤ low
  pub none : (q : ℕ) → from ≤ q → q < 65536 → row_key name q < low → on rows name q ≡ false

pub on-no_row : (rows : List (ℕ × ℕ)) (name q : ℕ) → q < 65536 → row_at rows (row_key name q) ≡ None → on rows name q ≡ false
on-no_row rows name q below none = on-inside rows name q below ∙ ap (λ w. has_bit w (q % 64)) (word_of-none rows (row_key name q) none) ∙ has_bit-zero (q % 64)

-- there is no further row of the name
pub next_none : (rows : List (ℕ × ℕ)) (name from low : ℕ) → IsPassed rows name from low
    → ((other : ℕ) → low ≤ other → other < 1024 * (name + 1) → row_at rows other ≡ None) → (q : ℕ) → from ≤ q → on rows name q ≡ false
next_none rows name from low passed none q above = elim (cases_lt q 65536) [
  | inr large ↦ on-outside rows name q large
  | inl below ↦ elim (cases_lt (row_key name q) low) [
    | inl early ↦ passed.none q above below early
    | inr late ↦ on-no_row rows name q below (none (row_key name q) late (omega arith))
  ]
]

module _ (rows : List (ℕ × ℕ)) (name from low key word skip : ℕ) (passed : IsPassed rows name from low) (row : IsFirstRow rows low (1024 * (name + 1)) key word)
    (skipped : skip ≡ from - 64 * (key % 1024)) where
  block_is : key ≡ 1024 * name + key % 1024
  block_is = let less : low ≤ key = row.above in let more : key < 1024 * (name + 1) = row.below in let begun : row_key name from ≤ low = passed.above in omega arith

  at_key : (q : ℕ) → q < 65536 → row_key name q ≡ key → on rows name q ≡ has_bit word (q % 64)
  at_key q below same = on-inside rows name q below ∙ ap (λ o. has_bit (unwrap_or o 0) (q % 64)) (ap (row_at rows) same ∙ row.found)

  before : (q : ℕ) → from ≤ q → q < 65536 → row_key name q < key → on rows name q ≡ false
  before q above below early = elim (cases_lt (row_key name q) low) [
    | inl passed_by ↦ passed.none q above below passed_by
    | inr between ↦ on-no_row rows name q below (row.first (row_key name q) between early)
  ]

  skip_small : skip < 64
  skip_small = let is : key ≡ 1024 * name + key % 1024 = block_is in let less : low ≤ key = row.above in let begun : row_key name from ≤ low = passed.above in omega arith

  -- the row has a place from the bound on
  pub next_found : word < 2 ^ 64 → (word / 2 ^ skip ≡ 0 → ⊥) → IsFound (on rows name) from (64 * (key % 1024) + skip + trailing_zeros w64 (word / 2 ^ skip))
  next_found small some = found (lowest_is (word / 2 ^ skip) (omega arith) (shifted_small word skip small))
    where
      found : (trailing_zeros w64 (word / 2 ^ skip) < 64) × (has_bit (word / 2 ^ skip) (trailing_zeros w64 (word / 2 ^ skip)) ≡ true) × ((index : ℕ) → index < trailing_zeros w64 (word / 2 ^ skip) → has_bit (word / 2 ^ skip) index ≡ false)
          → IsFound (on rows name) from (64 * (key % 1024) + skip + trailing_zeros w64 (word / 2 ^ skip))
      found facts =
          let lowest = trailing_zeros w64 (word / 2 ^ skip) in
          let is : key ≡ 1024 * name + key % 1024 = block_is in
          let at : has_bit word (skip + lowest) ≡ true = sym (has_bit-shifted word skip lowest) ∙ facts.1 in
          let inside : skip + lowest < 64 = below_width word (skip + lowest) small at in
          record {
            above = omega arith;
            passes = at_key (64 * (key % 1024) + skip + lowest) (omega arith) (omega arith) ∙ ap (has_bit word) (omega arith) ∙ at;
            first = λ q above less. elim (cases_lt (row_key name q) key) [
              | inl early ↦ before q above (omega arith) early
              | inr late ↦ at_key q (omega arith) (omega arith) ∙ ap (has_bit word) (omega arith) ∙ sym (has_bit-shifted word skip (q - 64 * (key % 1024) - skip)) ∙ facts.2 (q - 64 * (key % 1024) - skip) (omega arith)
            ];
          }

  -- the row has none from the bound on
  pub next_step : word / 2 ^ skip ≡ 0 → IsPassed rows name from (key + 1)
  next_step none =
      let is : key ≡ 1024 * name + key % 1024 = block_is in
      let less : low ≤ key = row.above in
      let begun : row_key name from ≤ low = passed.above in
      record {
        above = omega arith;
        none = λ q above below low_key. elim (cases_lt (row_key name q) key) [
          | inl early ↦ before q above below early
          | inr late ↦ at_key q below (omega arith) ∙ ap (has_bit word) (omega arith) ∙ sym (has_bit-shifted word skip (q - 64 * (key % 1024) - skip))
              ∙ ap (λ w. has_bit w (q - 64 * (key % 1024) - skip)) none ∙ has_bit-zero _
        ];
      }

-- a name has only places below 65,536
pub on_small : (rows : List (ℕ × ℕ)) (name q : ℕ) → on rows name q ≡ true → q < 65536
on_small rows name q has = elim (cases_lt q 65536) [
  | inl below ↦ below
  | inr large ↦ absurd (true≢false (sym has ∙ on-outside rows name q large))
]

-- in no rows no name has a place
pub on_nothing : (name q : ℕ) → on [] name q ≡ false
on_nothing name q = elim (cases_lt q 65536) [ inl below ↦ on-no_row [] name q below refl | inr large ↦ on-outside [] name q large ]
