-- What words hold after a write, how many places that is, and the lowest bit that is set.
use Rattle.std.proofs.Common.{◌≡◌, ℕ, zero, suc, ◌+◌, ◌*◌, ◌/◌, ◌%◌, ◌^◌, ◌<◌, ◌≤◌, max, true, false, cond, not, ◌&&◌, ◌||◌, eqb, List, [], ◌∷◌, ◌++◌, length, get_or, set, bit_and, bit_or, refl, sym, ap, ◌∙◌, inl, inr, arith, w64, shr-shr, pow-suc}
use Rattle.std.specs.Int.{bit_at, bit_not, trailing_zeros}
use Rattle.std.specs.Int.RustNames.{count_ones}
use Rattle.std.proofs.lemmas.Nat.Bits.{bit_at_or, bit_at-lt, bit_at-zero, bit_at_set_same, bit_at_set_other, bit_at_clear_same, bit_at_clear_other, bit_at-trailing_zeros}
use lib.Count.{ones_step}
use Rattle.std.proofs.lemmas.List.{get_or-set_same, get_or-set_other, length-append}
use Rattle.std.proofs.lemmas.Bool.{cases_eq, cases_lt, eq-eqb, ne_eqb, eqb-true, eqb-false, false≢true, true≢false}
use Rattle.std.proofs.lemmas.Bool.Decides.{nat_tests}
use Rattle.slot_tables.specs.Words.{has_bit, holds, bits_from, places_from, places, among, Rises}
use Rattle.slot_tables.proofs.WordLemmas.{places_rise, among-places, rises_weaker, same_lists}

-- ---- bits of a word

either_bit : (x y : ℕ) → x < 2 → y < 2 → eqb (max x y) 1 ≡ (eqb x 1 || eqb y 1)
either_bit x y hx hy = grind (arith, nat_tests)

-- a word with those of another besides
pub has_bit-or : (a b index : ℕ) → has_bit (bit_or a b) index ≡ (has_bit a index || has_bit b index)
unfolding has_bit
has_bit-or a b index = ap (λ bit. eqb bit 1) (bit_at_or a b index) ∙ either_bit _ _ (bit_at-lt a index) (bit_at-lt b index)

-- a word with one bit set besides
pub has_bit-put : (word at index : ℕ) → at < 64 → has_bit (bit_or word (1 * 2 ^ at % 2 ^ 64)) index ≡ (eqb index at || has_bit word index)
unfolding has_bit
has_bit-put word at index within = elim (cases_eq index at) [
  | inl same ↦ ap (λ i. eqb (bit_at (bit_or word (1 * 2 ^ at % 2 ^ 64)) i) 1) same ∙ ap (λ bit. eqb bit 1) (bit_at_set_same w64 word at within)
      ∙ sym (ap (λ t. t || eqb (bit_at word index) 1) (eq-eqb index at same))
  | inr apart ↦ ap (λ bit. eqb bit 1) (bit_at_set_other w64 word at within index apart) ∙ sym (ap (λ t. t || eqb (bit_at word index) 1) (ne_eqb index at apart))
]

-- a word with one bit cleared
pub has_bit-clear : (word at index : ℕ) → at < 64 → index < 64
    → has_bit (bit_and word (bit_not w64 (1 * 2 ^ at % 2 ^ 64))) index ≡ (not (eqb index at) && has_bit word index)
unfolding has_bit
has_bit-clear word at index within inside = elim (cases_eq index at) [
  | inl same ↦ ap (λ i. eqb (bit_at (bit_and word (bit_not w64 (1 * 2 ^ at % 2 ^ 64))) i) 1) same ∙ ap (λ bit. eqb bit 1) (bit_at_clear_same w64 word at within)
      ∙ sym (ap (λ t. not t && eqb (bit_at word index) 1) (eq-eqb index at same))
  | inr apart ↦ ap (λ bit. eqb bit 1) (bit_at_clear_other w64 word at within index inside apart)
      ∙ sym (ap (λ t. not t && eqb (bit_at word index) 1) (ne_eqb index at apart))
]

pub has_bit-zero : (index : ℕ) → has_bit 0 index ≡ false
unfolding has_bit
has_bit-zero index = ap (λ bit. eqb bit 1) (bit_at-zero index)

-- a word shifted down
pub has_bit-shifted : (word by index : ℕ) → has_bit (word / 2 ^ by) index ≡ has_bit word (by + index)
unfolding has_bit
has_bit-shifted word by index = ap (λ x. eqb (x % 2) 1) (shr-shr word by index)

not_one : (x : ℕ) → x ≡ 0 → eqb x 1 ≡ false
not_one x is = ap (λ y. eqb y 1) is

-- the lowest bit that is set, in a word that is not 0
pub lowest_is : (word : ℕ) → 0 < word → word < 2 ^ 64
    → (trailing_zeros w64 word < 64) × (has_bit word (trailing_zeros w64 word) ≡ true) × ((index : ℕ) → index < trailing_zeros w64 word → has_bit word index ≡ false)
unfolding has_bit
lowest_is word some small =
    let facts = bit_at-trailing_zeros w64 word some small in
    (facts.0, ap (λ bit. eqb bit 1) facts.1, λ index below. not_one _ (facts.2 index below))

-- ---- words after a write

pub holds-set : (words : List ℕ) (block word q : ℕ) → block < length words
    → holds (set words block word) q ≡ cond (eqb (q / 64) block) (has_bit word (q % 64)) (holds words q)
unfolding holds
holds-set words block word q within = elim (cases_eq (q / 64) block) [
  | inl same ↦ ap (λ w. has_bit w (q % 64)) (ap (λ i. get_or (set words block word) i 0) same ∙ get_or-set_same words block word 0 within)
      ∙ sym (ap (λ t. cond t (has_bit word (q % 64)) (has_bit (get_or words (q / 64) 0) (q % 64))) (eq-eqb (q / 64) block same))
  | inr apart ↦ ap (λ w. has_bit w (q % 64)) (get_or-set_other words block (q / 64) word 0 apart)
      ∙ sym (ap (λ t. cond t (has_bit word (q % 64)) (has_bit (get_or words (q / 64) 0) (q % 64))) (ne_eqb (q / 64) block apart))
]

get_or-zero_pushed : (words : List ℕ) (at : ℕ) → get_or (words ++ 0 ∷ []) at 0 ≡ get_or words at 0
get_or-zero_pushed [] zero = refl
get_or-zero_pushed [] (suc at) = refl
get_or-zero_pushed (word ∷ words) zero = refl
get_or-zero_pushed (word ∷ words) (suc at) = get_or-zero_pushed words at

-- one more word of no place
pub holds-pushed : (words : List ℕ) (q : ℕ) → holds (words ++ 0 ∷ []) q ≡ holds words q
unfolding holds
holds-pushed words q = ap (λ w. has_bit w (q % 64)) (get_or-zero_pushed words (q / 64))

-- ---- how many places

length-bits_base : (base other count word : ℕ) → length (bits_from base count word) ≡ length (bits_from other count word)
unfolding bits_from
length-bits_base base other zero word = refl
length-bits_base base other (suc count) word =
    elim (eqb (word % 2) 1) as (λ t. length (cond t (base ∷ bits_from (base + 1) count (word / 2)) (bits_from (base + 1) count (word / 2)))
    ≡ length (cond t (other ∷ bits_from (other + 1) count (word / 2)) (bits_from (other + 1) count (word / 2)))) [
      | true ↦ ap suc (length-bits_base (base + 1) (other + 1) count (word / 2))
      | false ↦ length-bits_base (base + 1) (other + 1) count (word / 2)
    ]

pub length-bits : (base count word : ℕ) → word < 2 ^ count → length (bits_from base count word) ≡ count_ones word
unfolding bits_from count_ones
length-bits base zero word small = let none : word ≡ 0 = omega arith in ap count_ones (sym none)
length-bits base (suc count) word small =
    let rest : length (bits_from (base + 1) count (word / 2)) ≡ count_ones (word / 2) = length-bits (base + 1) count (word / 2) (half_small count word small) in
    elim (eqb (word % 2) 1) as (λ t. eqb (word % 2) 1 ≡ t → length (cond t (base ∷ bits_from (base + 1) count (word / 2)) (bits_from (base + 1) count (word / 2))) ≡ count_ones word) [
      | true ↦ λ is. let odd : word % 2 ≡ 1 = eqb-true _ _ is in omega (arith, rest, ones_step word)
      | false ↦ λ is. let even : word % 2 ≡ 1 → ⊥ = eqb-false _ _ is in omega (arith, rest, ones_step word)
    ] refl
  where
    half_small : (k n : ℕ) → n < 2 ^ suc k → n / 2 < 2 ^ k
    half_small k n h = let doubled : 2 ^ suc k ≡ 2 ^ k * 2 = pow-suc 2 k in omega arith

set_places_from : (word : ℕ) → word < 2 ^ 64 → (base : ℕ) (words : List ℕ) (block : ℕ) → block < length words → get_or words block 0 < 2 ^ 64
    → length (places_from base (set words block word)) + count_ones (get_or words block 0) ≡ length (places_from base words) + count_ones word
unfolding places_from
set_places_from word new base [] block within old = absurd (omega arith)
set_places_from word new base (first ∷ words) zero within old =
    omega (
      arith,
      length-append (bits_from base 64 word) (places_from (base + 64) words),
      length-append (bits_from base 64 first) (places_from (base + 64) words),
      length-bits base 64 word new,
      length-bits base 64 first old,
    )
set_places_from word new base (first ∷ words) (suc block) within old =
    omega (
      arith,
      length-append (bits_from base 64 first) (places_from (base + 64) (set words block word)),
      length-append (bits_from base 64 first) (places_from (base + 64) words),
      set_places_from word new (base + 64) words block (omega arith) old,
    )

-- how many places, when one word is replaced
pub length_places-set : (words : List ℕ) (block word : ℕ) → block < length words → get_or words block 0 < 2 ^ 64 → word < 2 ^ 64
    → length (places (set words block word)) + count_ones (get_or words block 0) ≡ length (places words) + count_ones word
unfolding places
length_places-set words block word within old new = set_places_from word new 0 words block within old

length_bits-le : (base count word : ℕ) → length (bits_from base count word) ≤ count
unfolding bits_from
length_bits-le base zero word = omega arith
length_bits-le base (suc count) word =
    let rest : length (bits_from (base + 1) count (word / 2)) ≤ count = length_bits-le (base + 1) count (word / 2) in
    elim (eqb (word % 2) 1) as (λ t. length (cond t (base ∷ bits_from (base + 1) count (word / 2)) (bits_from (base + 1) count (word / 2))) ≤ suc count) [
      | true ↦ omega arith
      | false ↦ omega arith
    ]

length_places_from-le : (base : ℕ) (words : List ℕ) → length (places_from base words) ≤ 64 * length words
unfolding places_from
length_places_from-le base [] = omega arith
length_places_from-le base (word ∷ words) =
    omega (arith, length-append (bits_from base 64 word) (places_from (base + 64) words), length_bits-le base 64 word, length_places_from-le (base + 64) words)

-- the places are at most as many as the bits
pub length_places-le : (words : List ℕ) → length (places words) ≤ 64 * length words
unfolding places
length_places-le words = length_places_from-le 0 words

-- ---- one place more, or one less

-- the list without a number
without : ℕ → List ℕ → List ℕ
without q [] = []
without q (x ∷ xs) = cond (eqb x q) (without q xs) (x ∷ without q xs)

without_rises : (q low : ℕ) (xs : List ℕ) → Rises low xs → Rises low (without q xs)
unfolding without
without_rises q low [] rises = tt
without_rises q low (x ∷ xs) rises =
    elim (eqb x q) as (λ t. Rises low (cond t (without q xs) (x ∷ without q xs))) [
      | true ↦ rises_weaker (x + 1) low (without q xs) (omega (arith, rises.0)) (without_rises q (x + 1) xs rises.1)
      | false ↦ (rises.0, without_rises q (x + 1) xs rises.1)
    ]

among-without : (q other : ℕ) (xs : List ℕ) → among other (without q xs) ≡ (not (eqb other q) && among other xs)
unfolding without
among-without q other [] = elim (eqb other q) as (λ t. false ≡ (not t && false)) [ true ↦ refl | false ↦ refl ]
among-without q other (x ∷ xs) =
    let rest : among other (without q xs) ≡ (not (eqb other q) && among other xs) = among-without q other xs in
    elim (eqb x q) as (λ t. eqb x q ≡ t → among other (cond t (without q xs) (x ∷ without q xs)) ≡ (not (eqb other q) && (eqb x other || among other xs))) [
      | true ↦ λ is. let at : x ≡ q = eqb-true x q is in grind (arith, nat_tests)
      | false ↦ λ is. let off : x ≡ q → ⊥ = eqb-false x q is in grind (arith, nat_tests)
    ] refl

without_none : (q low : ℕ) (xs : List ℕ) → q < low → Rises low xs → without q xs ≡ xs
unfolding without
without_none q low [] below rises = refl
without_none q low (x ∷ xs) below rises =
    ap (λ t. cond t (without q xs) (x ∷ without q xs)) (ne_eqb x q (λ same. omega (arith, rises.0))) ∙ ap (λ rest. x ∷ rest) (without_none q (x + 1) xs (omega (arith, rises.0)) rises.1)

length-without : (q low : ℕ) (xs : List ℕ) → Rises low xs → among q xs ≡ true → length (without q xs) + 1 ≡ length xs
unfolding without
length-without q low [] rises is = absurd (false≢true is)
length-without q low (x ∷ xs) rises is =
    elim (cases_eq x q) [
      | inl same ↦ ap (λ t. length (cond t (without q xs) (x ∷ without q xs)) + 1) (eq-eqb x q same) ∙ ap (λ rest. length rest + 1) (without_none q (x + 1) xs (omega arith) rises.1) ∙ omega arith
      | inr apart ↦
          let later : among q xs ≡ true = sym (ap (λ t. t || among q xs) (ne_eqb x q apart)) ∙ is in
          ap (λ t. length (cond t (without q xs) (x ∷ without q xs)) + 1) (ne_eqb x q apart) ∙ omega (arith, length-without q (x + 1) xs rises.1 later)
    ]

-- how many places words hold, when they hold one less than others
pub length_places_less : (more less : List ℕ) (q : ℕ) → holds more q ≡ true → ((other : ℕ) → holds less other ≡ (not (eqb other q) && holds more other))
    → length (places less) + 1 ≡ length (places more)
length_places_less more less q held same =
    ap (λ rest. length rest + 1) (same_lists 0 (places less) (without q (places more)) (places_rise less) (without_rises q 0 _ (places_rise more))
    (λ other. among-places less other ∙ same other ∙ ap (λ b. not (eqb other q) && b) (sym (among-places more other)) ∙ sym (among-without q other (places more))))
    ∙ length-without q 0 (places more) (places_rise more) (among-places more q ∙ held)

-- the places of words, when they hold one less than others, which is the least
pub places_less : (more less : List ℕ) (q : ℕ) → holds more q ≡ true → ((other : ℕ) → other < q → holds more other ≡ false)
    → ((other : ℕ) → holds less other ≡ (not (eqb other q) && holds more other)) → places more ≡ q ∷ places less
places_less more less q held none same =
    same_lists 0 (places more) (q ∷ places less) (places_rise more) (omega arith, rises_above (q + 1) 0 (places less) (λ other below. among-places less other ∙ same other ∙ gone other below) (places_rise less))
    (λ other. among-places more other ∙ split other ∙ ap (λ b. eqb q other || b) (sym (same other) ∙ sym (among-places less other)))
  where
    gone : (other : ℕ) → other < q + 1 → (not (eqb other q) && holds more other) ≡ false
    gone other below = elim (cases_eq other q) [
      | inl at ↦ ap (λ t. not t && holds more other) (eq-eqb other q at)
      | inr off ↦ ap (λ b. not (eqb other q) && b) (none other (omega arith)) ∙ elim (eqb other q) as (λ t. (not t && false) ≡ false) [ true ↦ refl | false ↦ refl ]
    ]

    split : (other : ℕ) → holds more other ≡ (eqb q other || (not (eqb other q) && holds more other))
    split other = elim (cases_eq other q) [
      | inl at ↦ ap (holds more) at ∙ held ∙ sym (ap (λ t. t || (not (eqb other q) && holds more other)) (eq-eqb q other (sym at)))
      | inr off ↦ sym (ap (λ t. t || (not (eqb other q) && holds more other)) (ne_eqb q other (λ at. off (sym at))) ∙ ap (λ t. not t && holds more other) (ne_eqb other q off))
    ]

    rises_above : (high low : ℕ) (xs : List ℕ) → ((other : ℕ) → other < high → among other xs ≡ false) → Rises low xs → Rises high xs
    rises_above high low [] none_below rises = tt
    rises_above high low (x ∷ xs) none_below rises = elim (cases_lt x high) [
      | inl less ↦ absurd (true≢false (sym (ap (λ t. t || among x xs) (eq-eqb x x refl)) ∙ none_below x less))
      | inr more ↦ (more, rises.1)
    ]
