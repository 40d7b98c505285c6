-- What a set of places has after a place is added or taken out, and its next place.
use Rattle.std.proofs.Common.{◌≡◌, ℕ, zero, suc, ◌+◌, ◌-◌, ◌*◌, ◌/◌, ◌%◌, ◌^◌, ◌<◌, ◌≤◌, Bool, true, false, cond, not, ◌&&◌, ◌||◌, eqb, ltb, List, [], ◌∷◌, length, get_or, set, bit_and, bit_or, refl, sym, ap, subst, ◌∙◌, inl, inr, arith, rules, w64, Option, None, Some, IfSome}
use Rattle.std.specs.Int.{bit_at, bit_not, trailing_zeros}
use Rattle.std.specs.Int.RustNames.{count_ones}
use Rattle.std.proofs.lemmas.Nat.Bits.{and_pow, bit_at-lt, bit_at_above}
use Rattle.std.proofs.lemmas.Nat.{or_lt}
use Rattle.std.proofs.lemmas.Grind.{one_shifted, get_or_default_zero}
use Rattle.std.proofs.lemmas.Bool.{cases_eq, cases_lt, eq-eqb, ne_eqb, true≢false}
use Rattle.slot_tables.specs.Words.{has_bit, holds, places, IsFound, IsNext}
use Rattle.slot_tables.proofs.BitLemmas.{has_bit-or, has_bit-put, has_bit-clear, has_bit-zero, has_bit-shifted, lowest_is, holds-set, length_places-set, length_places_less}

-- what holding a place says of its word
pub holds-word : (words : List ℕ) (q : ℕ) → holds words q ≡ has_bit (get_or words (q / 64) 0) (q % 64)
unfolding holds
holds-word words q = refl

one_bit : (at : ℕ) → at < 64 → 1 * 2 ^ at % 2 ^ 64 ≡ 2 ^ at
one_bit at within = (one_shifted at (2 ^ 64 - 1) refl within).0

no_bit : (b p : ℕ) → 0 < p → b < 2 → b * p ≡ 0 → b ≡ 0
no_bit zero p some small none = refl
no_bit (suc b) p some small none = absurd (let one : b ≡ 0 = omega arith in let is : suc 0 * p ≡ 0 = subst (λ x. suc x * p ≡ 0) one none in omega arith)

pow_some : (at : ℕ) → 0 < 2 ^ at
pow_some at = Rattle.std.proofs.Common.pow_pos at

-- the test of one bit
pub bit_unset : (word at : ℕ) → at < 64 → bit_and word (1 * 2 ^ at % 2 ^ 64) ≡ 0 → has_bit word at ≡ false
unfolding has_bit
bit_unset word at within none =
    let is : bit_at word at * 2 ^ at ≡ 0 = sym (and_pow word at) ∙ ap (bit_and word) (sym (one_bit at within)) ∙ none in
    ap (λ bit. eqb bit 1) (no_bit (bit_at word at) (2 ^ at) (pow_some at) (bit_at-lt word at) is)

pub bit_set : (word at : ℕ) → at < 64 → (bit_and word (1 * 2 ^ at % 2 ^ 64) ≡ 0 → ⊥) → has_bit word at ≡ true
unfolding has_bit
bit_set word at within some =
    let small : bit_at word at < 2 = bit_at-lt word at in
    let apart : bit_at word at ≡ 0 → ⊥ = λ is. some (ap (bit_and word) (one_bit at within) ∙ and_pow word at ∙ ap (λ b. b * 2 ^ at) is ∙ omega arith) in
    eq-eqb (bit_at word at) 1 (omega arith)

pub same_word : (words : List ℕ) (at word : ℕ) → at < length words → word ≡ get_or words at word → get_or words at 0 ≡ word
same_word words at word within is = sym (get_or_default_zero words at word within) ∙ sym is

module _ (words : List ℕ) (place word : ℕ) (within : place / 64 < length words) (is : word ≡ get_or words (place / 64) word) where
  in_block : (q : ℕ) → q / 64 ≡ place / 64 → holds words q ≡ has_bit word (q % 64)
  in_block q at = holds-word words q ∙ ap (λ i. has_bit (get_or words i 0) (q % 64)) at ∙ ap (λ w. has_bit w (q % 64)) (same_word words (place / 64) word within is)

  -- whether the place is held, by the test of its bit
  pub not_held : bit_and word (1 * 2 ^ (place % 64) % 2 ^ 64) ≡ 0 → holds words place ≡ false
  not_held none = in_block place refl ∙ bit_unset word (place % 64) (omega arith) none

  pub is_held : (bit_and word (1 * 2 ^ (place % 64) % 2 ^ 64) ≡ 0 → ⊥) → holds words place ≡ true
  is_held some = in_block place refl ∙ bit_set word (place % 64) (omega arith) some

  -- the place added
  pub held-added : (q : ℕ) → holds (set words (place / 64) (bit_or word (1 * 2 ^ (place % 64) % 2 ^ 64))) q ≡ (eqb q place || holds words q)
  held-added q = holds-set words (place / 64) _ q within ∙ elim (cases_eq (q / 64) (place / 64)) [
    | inl same ↦ ap (λ t. cond t (has_bit (bit_or word (1 * 2 ^ (place % 64) % 2 ^ 64)) (q % 64)) (holds words q)) (eq-eqb _ _ same)
        ∙ has_bit-put word (place % 64) (q % 64) (omega arith)
        ∙ ap (λ t. t || has_bit word (q % 64)) (bits_same same) ∙ ap (λ t. eqb q place || t) (sym (in_block q same))
    | inr apart ↦ ap (λ t. cond t (has_bit (bit_or word (1 * 2 ^ (place % 64) % 2 ^ 64)) (q % 64)) (holds words q)) (ne_eqb _ _ apart)
        ∙ sym (ap (λ t. t || holds words q) (ne_eqb q place (λ at. apart (ap (λ x. x / 64) at))))
  ]
    where
      bits_same : q / 64 ≡ place / 64 → eqb (q % 64) (place % 64) ≡ eqb q place
      bits_same same = elim (cases_eq q place) [
        | inl at ↦ eq-eqb _ _ (ap (λ x. x % 64) at) ∙ sym (eq-eqb q place at)
        | inr off ↦ ne_eqb _ _ (λ rest. off (omega arith)) ∙ sym (ne_eqb q place off)
      ]

  -- the place taken out
  pub held-removed : (q : ℕ) → holds (set words (place / 64) (bit_and word (bit_not w64 (1 * 2 ^ (place % 64) % 2 ^ 64)))) q ≡ (not (eqb q place) && holds words q)
  held-removed q = holds-set words (place / 64) _ q within ∙ elim (cases_eq (q / 64) (place / 64)) [
    | inl same ↦ ap (λ t. cond t (has_bit (bit_and word (bit_not w64 (1 * 2 ^ (place % 64) % 2 ^ 64))) (q % 64)) (holds words q)) (eq-eqb _ _ same)
        ∙ has_bit-clear word (place % 64) (q % 64) (omega arith) (omega arith)
        ∙ ap (λ t. not t && has_bit word (q % 64)) (bits_same same) ∙ ap (λ t. not (eqb q place) && t) (sym (in_block q same))
    | inr apart ↦ ap (λ t. cond t (has_bit (bit_and word (bit_not w64 (1 * 2 ^ (place % 64) % 2 ^ 64))) (q % 64)) (holds words q)) (ne_eqb _ _ apart)
        ∙ sym (ap (λ t. not t && holds words q) (ne_eqb q place (λ at. apart (ap (λ x. x / 64) at))))
  ]
    where
      bits_same : q / 64 ≡ place / 64 → eqb (q % 64) (place % 64) ≡ eqb q place
      bits_same same = elim (cases_eq q place) [
        | inl at ↦ eq-eqb _ _ (ap (λ x. x % 64) at) ∙ sym (eq-eqb q place at)
        | inr off ↦ ne_eqb _ _ (λ rest. off (omega arith)) ∙ sym (ne_eqb q place off)
      ]

-- how many places there are, one more
pub count-added : (words new : List ℕ) (place : ℕ) → holds words place ≡ false → ((q : ℕ) → holds new q ≡ (eqb q place || holds words q))
    → length (places words) + 1 ≡ length (places new)
count-added words new place absent added =
    length_places_less new words place (added place ∙ ap (λ t. t || holds words place) (eq-eqb place place refl))
    (λ q. elim (cases_eq q place) [
      | inl at ↦ ap (holds words) at ∙ absent ∙ sym (ap (λ t. not t && holds new q) (eq-eqb q place at))
      | inr off ↦ sym (ap (λ t. not t && holds new q) (ne_eqb q place off) ∙ added q ∙ ap (λ t. t || holds words q) (ne_eqb q place off))
    ])

-- a place that is not held is added to none, and taken out of none
pub held-same : (words : List ℕ) (place : ℕ) → holds words place ≡ true → (q : ℕ) → holds words q ≡ (eqb q place || holds words q)
held-same words place held q = elim (cases_eq q place) [
  | inl at ↦ ap (holds words) at ∙ held ∙ sym (ap (λ t. t || holds words q) (eq-eqb q place at))
  | inr off ↦ sym (ap (λ t. t || holds words q) (ne_eqb q place off))
]

pub held-absent : (words : List ℕ) (place : ℕ) → holds words place ≡ false → (q : ℕ) → holds words q ≡ (not (eqb q place) && holds words q)
held-absent words place absent q = elim (cases_eq q place) [
  | inl at ↦ ap (holds words) at ∙ absent ∙ sym (ap (λ t. not t && holds words q) (eq-eqb q place at))
  | inr off ↦ sym (ap (λ t. not t && holds words q) (ne_eqb q place off))
]

get_or-past : (words : List ℕ) (at : ℕ) → length words ≤ at → get_or words at 0 ≡ 0
get_or-past [] at past = refl
get_or-past (word ∷ words) zero past = absurd (omega arith)
get_or-past (word ∷ words) (suc at) past = get_or-past words at (omega arith)

-- past the last word no place is held
pub holds-past : (words : List ℕ) (q : ℕ) → length words ≤ q / 64 → holds words q ≡ false
holds-past words q past = holds-word words q ∙ ap (λ w. has_bit w (q % 64)) (get_or-past words (q / 64) past) ∙ has_bit-zero (q % 64)

-- a word's places added
pub held-added_word : (words : List ℕ) (block old word : ℕ) → block < length words → old ≡ get_or words block old
    → (q : ℕ) → holds (set words block (bit_or old word)) q ≡ (holds words q || (eqb (q / 64) block && has_bit word (q % 64)))
held-added_word words block old word within is q = holds-set words block _ q within ∙ elim (cases_eq (q / 64) block) [
  | inl same ↦ ap (λ t. cond t (has_bit (bit_or old word) (q % 64)) (holds words q)) (eq-eqb _ _ same) ∙ has_bit-or old word (q % 64)
      ∙ ap (λ t. t || has_bit word (q % 64)) (sym (holds-word words q ∙ ap (λ i. has_bit (get_or words i 0) (q % 64)) same ∙ ap (λ w. has_bit w (q % 64)) (same_word words block old within is)))
      ∙ ap (λ t. holds words q || (t && has_bit word (q % 64))) (sym (eq-eqb _ _ same))
  | inr apart ↦ ap (λ t. cond t (has_bit (bit_or old word) (q % 64)) (holds words q)) (ne_eqb _ _ apart) ∙ or_none (holds words q)
      ∙ ap (λ t. holds words q || (t && has_bit word (q % 64))) (sym (ne_eqb _ _ apart))
]
  where
    or_none : (b : Bool) → b ≡ (b || false)
    or_none true = refl
    or_none false = refl

-- how many places there are, when a word's places are added
pub count-added_word : (words : List ℕ) (block old word : ℕ) → block < length words → old ≡ get_or words block old → old < 2 ^ 64 → word < 2 ^ 64
    → length (places (set words block (bit_or old word))) + count_ones old ≡ length (places words) + count_ones (bit_or old word)
count-added_word words block old word within is old_small small =
    let at : get_or words block 0 ≡ old = same_word words block old within is in
    ap (λ w. length (places (set words block (bit_or old word))) + count_ones w) (sym at)
    ∙ length_places-set words block (bit_or old word) within (subst (λ w. w < 2 ^ 64) (sym at) old_small) (or_lt 64 old word old_small small)

-- ---- the next place

pub read_zero : (words : List ℕ) (at : ℕ) → at < length words → get_or words at 0 ≡ get_or words at (get_or words at 0)
read_zero words at within = sym (get_or_default_zero words at (get_or words at 0) within)

-- the first word that is not 0 has the next place, in its lowest bit
pub next-word : (words : List ℕ) (from block word : ℕ) → block < length words → word ≡ get_or words block word → 0 < word → word < 2 ^ 64
    → from ≤ 64 * block → ((q : ℕ) → from ≤ q → q < 64 * block → holds words q ≡ false) → IsFound (holds words) from (64 * block + trailing_zeros w64 word)
next-word words from block word within is some small before none =
    let facts = lowest_is word some small in
    let below : trailing_zeros w64 word < 64 = facts.0 in
    record {
      above = omega arith;
      passes = at_bit (trailing_zeros w64 word) below ∙ facts.1;
      first = λ q above less. elim (cases_lt q (64 * block)) [
        | inl early ↦ none q above early
        | inr late ↦ ap (holds words) (omega arith) ∙ at_bit (q - 64 * block) (omega arith) ∙ facts.2 (q - 64 * block) (omega arith)
      ];
    }
  where
    at_bit : (index : ℕ) → index < 64 → holds words (64 * block + index) ≡ has_bit word index
    at_bit index inside =
        let at : (64 * block + index) / 64 ≡ block = omega arith in
        let bit : (64 * block + index) % 64 ≡ index = omega arith in
        holds-word words (64 * block + index) ∙ ap (λ i. has_bit (get_or words i 0) ((64 * block + index) % 64)) at
        ∙ ap (λ w. has_bit w ((64 * block + index) % 64)) (same_word words block word within is) ∙ ap (has_bit word) bit

-- a word of 0 has no place
pub next-none : (words : List ℕ) (from block word : ℕ) → block < length words → word ≡ get_or words block word → word ≡ 0
    → ((q : ℕ) → from ≤ q → q < 64 * block → holds words q ≡ false) → (q : ℕ) → from ≤ q → q < 64 * (block + 1) → holds words q ≡ false
next-none words from block word within is zero_is none q above less = elim (cases_lt q (64 * block)) [
  | inl early ↦ none q above early
  | inr late ↦
      let at : q / 64 ≡ block = omega arith in
      holds-word words q ∙ ap (λ i. has_bit (get_or words i 0) (q % 64)) at ∙ ap (λ w. has_bit w (q % 64)) (same_word words block word within is ∙ zero_is) ∙ has_bit-zero (q % 64)
]

pub has_bit-above : (word index : ℕ) → word < 2 ^ 64 → 64 ≤ index → has_bit word index ≡ false
unfolding has_bit
has_bit-above word index small more = ap (λ bit. eqb bit 1) (bit_at_above word 64 index small more)

-- the rest of the first word, when it is not 0
pub next-rest : (words : List ℕ) (from word : ℕ) → from / 64 < length words → word ≡ get_or words (from / 64) word → 0 < word / 2 ^ (from % 64) → word / 2 ^ (from % 64) < 2 ^ 64
    → word < 2 ^ 64 → (trailing_zeros w64 (word / 2 ^ (from % 64)) < 64) × IsFound (holds words) from (from + trailing_zeros w64 (word / 2 ^ (from % 64)))
next-rest words from word within is some small word_small =
    let facts = lowest_is (word / 2 ^ (from % 64)) some small in (
      facts.0,
      record {
        above = omega arith;
        passes = at_bit (trailing_zeros w64 (word / 2 ^ (from % 64))) (inside _ facts.1) ∙ facts.1;
        first = λ q above less. ap (holds words) (omega arith) ∙ at_bit (q - from) (early q above less facts.1) ∙ facts.2 (q - from) (omega arith);
      },
    )
  where
    at_bit : (index : ℕ) → from % 64 + index < 64 → holds words (from + index) ≡ has_bit (word / 2 ^ (from % 64)) index
    at_bit index inside =
        let at : (from + index) / 64 ≡ from / 64 = omega arith in
        let bit : (from + index) % 64 ≡ from % 64 + index = omega arith in
        holds-word words (from + index) ∙ ap (λ i. has_bit (get_or words i 0) ((from + index) % 64)) at
        ∙ ap (λ w. has_bit w ((from + index) % 64)) (same_word words (from / 64) word within is) ∙ ap (has_bit word) bit ∙ sym (has_bit-shifted word (from % 64) index)

    inside : (index : ℕ) → has_bit (word / 2 ^ (from % 64)) index ≡ true → from % 64 + index < 64
    inside index has = elim (cases_lt (from % 64 + index) 64) [
      | inl less ↦ less
      | inr more ↦ absurd (true≢false (sym has ∙ has_bit-shifted word (from % 64) index ∙ has_bit-above word (from % 64 + index) word_small more))
    ]

    early : (q : ℕ) → from ≤ q → q < from + trailing_zeros w64 (word / 2 ^ (from % 64)) → has_bit (word / 2 ^ (from % 64)) (trailing_zeros w64 (word / 2 ^ (from % 64))) ≡ true → from % 64 + (q - from) < 64
    early q above less has = let bound : from % 64 + trailing_zeros w64 (word / 2 ^ (from % 64)) < 64 = inside _ has in omega arith

-- the rest of the first word, when it is 0
pub next-past : (words : List ℕ) (from word : ℕ) → from / 64 < length words → word ≡ get_or words (from / 64) word → word / 2 ^ (from % 64) ≡ 0
    → (q : ℕ) → from ≤ q → q < 64 * (from / 64 + 1) → holds words q ≡ false
next-past words from word within is none q above less =
    let at : q / 64 ≡ from / 64 = omega arith in
    let bit : q % 64 ≡ from % 64 + (q - from) = omega arith in
    holds-word words q ∙ ap (λ i. has_bit (get_or words i 0) (q % 64)) at ∙ ap (λ w. has_bit w (q % 64)) (same_word words (from / 64) word within is)
    ∙ ap (has_bit word) bit ∙ sym (has_bit-shifted word (from % 64) (q - from)) ∙ ap (λ w. has_bit w (q - from)) none ∙ has_bit-zero (q - from)

-- from a later bound, where there is none before it
pub next-later : (words : List ℕ) (from later : ℕ) (found : Rattle.std.proofs.Common.Option ℕ) → from ≤ later → ((q : ℕ) → from ≤ q → q < later → holds words q ≡ false)
    → IsNext (holds words) later found → IsNext (holds words) from found
next-later words from later Rattle.std.proofs.Common.None less none next = λ q above. elim (cases_lt q later) [ inl early ↦ none q above early | inr late ↦ next q late ]
next-later words from later (Rattle.std.proofs.Common.Some place) less none next =
    record {
      above = omega (arith, next.above);
      passes = next.passes;
      first = λ q above below. elim (cases_lt q later) [ inl early ↦ none q above early | inr late ↦ next.first q late below ];
    }

-- past the last word there is none
pub next-end : (words : List ℕ) (from block : ℕ) → length words ≤ block → ((q : ℕ) → from ≤ q → q < 64 * block → holds words q ≡ false) → (q : ℕ) → from ≤ q → holds words q ≡ false
next-end words from block past none q above = elim (cases_lt q (64 * block)) [
  | inl early ↦ none q above early
  | inr late ↦ holds-past words q (omega arith)
]

-- a place that few words hold is small
pub next-small : (words : List ℕ) (from : ℕ) (found : Option ℕ) → length words ≤ 1024 → IsNext (holds words) from found → IfSome found (λ place. place < 65536)
next-small words from None few next = search
next-small words from (Some place) few next = elim (cases_lt (place / 64) (length words)) [
  | inl within ↦ omega arith
  | inr past ↦ absurd (true≢false (sym next.passes ∙ holds-past words place past))
]
