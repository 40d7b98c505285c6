-- What the list of places of words has, and that it rises.
use Rattle.std.proofs.Common.{◌≡◌, ℕ, zero, suc, ◌+◌, ◌-◌, ◌*◌, ◌/◌, ◌%◌, ◌<◌, ◌≤◌, Bool, true, false, cond, ◌||◌, eqb, List, [], ◌∷◌, ◌++◌, length, get_or, refl, sym, ap, subst, ◌∙◌, inl, inr, arith}
use Rattle.std.proofs.lemmas.Nat.Bits.{bit_at_lowest, bit_at-suc, bit_at-zero}
use Rattle.std.proofs.lemmas.List.Folds.{list_any-append}
use Rattle.std.proofs.lemmas.Bool.{cases_eq, cases_lt, eq-eqb, ne_eqb, false≢true, true≢false}
use Rattle.slot_tables.specs.Words.{has_bit, holds, bits_from, places_from, places, among, Rises}

-- no number below the bound is in a list that rises from it
pub among_below : (low q : ℕ) (xs : List ℕ) → q < low → Rises low xs → among q xs ≡ false
among_below low q [] below rises = refl
among_below low q (x ∷ xs) below rises =
    let apart : x ≡ q → ⊥ = λ same. omega arith in
    ap (λ b. b || among q xs) (ne_eqb x q apart) ∙ among_below (x + 1) q xs (omega arith) rises.1

pub rises_weaker : (low lower : ℕ) (xs : List ℕ) → lower ≤ low → Rises low xs → Rises lower xs
rises_weaker low lower [] less rises = tt
rises_weaker low lower (x ∷ xs) less rises = (omega arith, rises.1)

or_false : (a b : Bool) → a ≡ false → (a || b) ≡ b
or_false false b none = refl
or_false true b none = absurd (true≢false none)

-- two lists that rise and have the same numbers are equal
pub same_lists : (low : ℕ) (xs ys : List ℕ) → Rises low xs → Rises low ys → ((q : ℕ) → among q xs ≡ among q ys) → xs ≡ ys
same_lists low [] [] rx ry same = refl
same_lists low [] (y ∷ ys) rx ry same = absurd (false≢true (same y ∙ ap (λ b. b || among y ys) (eq-eqb y y refl)))
same_lists low (x ∷ xs) [] rx ry same = absurd (true≢false (sym (ap (λ b. b || among x xs) (eq-eqb x x refl)) ∙ same x))
same_lists low (x ∷ xs) (y ∷ ys) rx ry same = elim (cases_eq x y) [ inl is ↦ heads (same_lists (x + 1) xs ys) is | inr apart ↦ absurd (differ apart) ]
  where
    tails : x ≡ y → (q : ℕ) → among q xs ≡ among q ys
    tails is q = elim (cases_eq x q) [
      | inl at ↦ among_below (x + 1) q xs (omega arith) rx.1 ∙ sym (among_below (y + 1) q ys (omega arith) ry.1)
      | inr off ↦ sym (or_false _ (among q xs) (ne_eqb x q off)) ∙ same q ∙ or_false _ (among q ys) (ne_eqb y q (λ at. off (is ∙ at)))
    ]

    heads : (Rises (x + 1) xs → Rises (x + 1) ys → ((q : ℕ) → among q xs ≡ among q ys) → xs ≡ ys) → x ≡ y → x ∷ xs ≡ y ∷ ys
    heads rests is = let rest : xs ≡ ys = rests rx.1 (rises_weaker (y + 1) (x + 1) ys (omega arith) ry.1) (tails is) in λ i. is i ∷ rest i

    differ : (x ≡ y → ⊥) → ⊥
    differ apart = elim (cases_lt x y) [
      | inl less ↦ true≢false (sym (ap (λ b. b || among x xs) (eq-eqb x x refl)) ∙ same x ∙ among_below y x (y ∷ ys) less (omega arith, ry.1))
      | inr more ↦ true≢false (sym (ap (λ b. b || among y ys) (eq-eqb y y refl)) ∙ sym (same y) ∙ among_below x y (x ∷ xs) (omega arith) (omega arith, rx.1))
    ]

-- the list rises strictly, its first number is not below a bound, and its last is below another
abbrev RisesTo : ℕ → ℕ → List ℕ → Type 0
RisesTo low high [] = low ≤ high
RisesTo low high (x ∷ xs) = (low ≤ x) × RisesTo (x + 1) high xs

to_weaker : (low lower high : ℕ) (xs : List ℕ) → lower ≤ low → RisesTo low high xs → RisesTo lower high xs
to_weaker low lower high [] less rises = omega arith
to_weaker low lower high (x ∷ xs) less rises = (omega arith, rises.1)

to_append : (low mid high : ℕ) (xs ys : List ℕ) → RisesTo low mid xs → RisesTo mid high ys → RisesTo low high (xs ++ ys)
to_append low mid high [] ys rx ry = to_weaker mid low high ys rx ry
to_append low mid high (x ∷ xs) ys rx ry = (rx.0, to_append (x + 1) mid high xs ys rx.1 ry)

rises_from_to : (low high : ℕ) (xs : List ℕ) → RisesTo low high xs → Rises low xs
rises_from_to low high [] rises = tt
rises_from_to low high (x ∷ xs) rises = (rises.0, rises_from_to (x + 1) high xs rises.1)

to_bound : (low high : ℕ) (xs : List ℕ) → RisesTo low high xs → low ≤ high
to_bound low high [] rises = rises
to_bound low high (x ∷ xs) rises = let more : x + 1 ≤ high = to_bound (x + 1) high xs rises.1 in omega (arith, rises.0)

among_above : (low high q : ℕ) (xs : List ℕ) → high ≤ q → RisesTo low high xs → among q xs ≡ false
among_above low high q [] above rises = refl
among_above low high q (x ∷ xs) above rises =
    let bound : x + 1 ≤ high = to_bound (x + 1) high xs rises.1 in
    let apart : x ≡ q → ⊥ = λ same. omega arith in
    ap (λ b. b || among q xs) (ne_eqb x q apart) ∙ among_above (x + 1) high q xs above rises.1

-- ---- the places of one word

bits_rise : (base count word : ℕ) → RisesTo base (base + count) (bits_from base count word)
unfolding bits_from
bits_rise base zero word = omega arith
bits_rise base (suc count) word =
    let rest : RisesTo (base + 1) (base + suc count) (bits_from (base + 1) count (word / 2)) =
    subst (λ high. RisesTo (base + 1) high (bits_from (base + 1) count (word / 2))) (omega arith) (bits_rise (base + 1) count (word / 2)) in
    elim (eqb (word % 2) 1) as (λ t. RisesTo base (base + suc count) (cond t (base ∷ bits_from (base + 1) count (word / 2)) (bits_from (base + 1) count (word / 2)))) [
      | true ↦ (omega arith, rest)
      | false ↦ to_weaker (base + 1) base _ _ (omega arith) rest
    ]

lowest_bit : (word : ℕ) → has_bit word 0 ≡ eqb (word % 2) 1
unfolding has_bit
lowest_bit word = ap (λ bit. eqb bit 1) (bit_at_lowest word)

later_bit : (word index : ℕ) → has_bit word (suc index) ≡ has_bit (word / 2) index
unfolding has_bit
later_bit word index = ap (λ bit. eqb bit 1) (bit_at-suc word index)

among-bits : (count base word index : ℕ) → index < count → among (base + index) (bits_from base count word) ≡ has_bit word index
unfolding bits_from
among-bits zero base word index within = absurd (omega arith)
among-bits (suc count) base word zero within =
    let none : among (base + 0) (bits_from (base + 1) count (word / 2)) ≡ false =
    among_below (base + 1) (base + 0) _ (omega arith) (rises_from_to _ _ _ (bits_rise (base + 1) count (word / 2))) in
    elim (eqb (word % 2) 1) as (λ t. has_bit word 0 ≡ t → among (base + 0) (cond t (base ∷ bits_from (base + 1) count (word / 2)) (bits_from (base + 1) count (word / 2))) ≡ has_bit word 0) [
      | true ↦ λ is. ap (λ b. b || among (base + 0) (bits_from (base + 1) count (word / 2))) (eq-eqb base (base + 0) (omega arith)) ∙ sym is
      | false ↦ λ is. none ∙ sym is
    ] (lowest_bit word)
among-bits (suc count) base word (suc index) within =
    let apart : base ≡ base + suc index → ⊥ = λ same. omega arith in
    let rest : among (base + suc index) (bits_from (base + 1) count (word / 2)) ≡ has_bit word (suc index) =
    ap (λ q. among q (bits_from (base + 1) count (word / 2))) (omega arith) ∙ among-bits count (base + 1) (word / 2) index (omega arith) ∙ sym (later_bit word index) in
    elim (eqb (word % 2) 1) as (λ t. among (base + suc index) (cond t (base ∷ bits_from (base + 1) count (word / 2)) (bits_from (base + 1) count (word / 2))) ≡ has_bit word (suc index)) [
      | true ↦ or_false _ _ (ne_eqb base (base + suc index) apart) ∙ rest
      | false ↦ rest
    ]

-- ---- the places of words

places_from_rise : (base : ℕ) (words : List ℕ) → RisesTo base (base + 64 * length words) (places_from base words)
unfolding places_from
places_from_rise base [] = omega arith
places_from_rise base (word ∷ words) =
    to_append base (base + 64) _ (bits_from base 64 word) (places_from (base + 64) words) (bits_rise base 64 word)
    (subst (λ high. RisesTo (base + 64) high (places_from (base + 64) words)) (omega arith) (places_from_rise (base + 64) words))

-- the places of words rise
pub places_rise : (words : List ℕ) → Rises 0 (places words)
unfolding places
places_rise words = rises_from_to _ _ _ (places_from_rise 0 words)

zero_has_none : (index : ℕ) → has_bit 0 index ≡ false
unfolding has_bit
zero_has_none index = ap (λ bit. eqb bit 1) (bit_at-zero index)

holds-first : (word : ℕ) (words : List ℕ) (q : ℕ) → q < 64 → holds (word ∷ words) q ≡ has_bit word q
unfolding holds
holds-first word words q within =
    let at : q / 64 ≡ 0 = omega arith in
    let bit : q % 64 ≡ q = omega arith in
    ap (λ i. has_bit (get_or (word ∷ words) i 0) (q % 64)) at ∙ ap (has_bit word) bit

holds-later : (word : ℕ) (words : List ℕ) (q : ℕ) → holds (word ∷ words) (64 + q) ≡ holds words q
unfolding holds
holds-later word words q =
    let at : (64 + q) / 64 ≡ suc (q / 64) = omega arith in
    let bit : (64 + q) % 64 ≡ q % 64 = omega arith in
    ap (λ i. has_bit (get_or (word ∷ words) i 0) ((64 + q) % 64)) at ∙ ap (has_bit (get_or words (q / 64) 0)) bit

holds-none : (q : ℕ) → holds [] q ≡ false
unfolding holds
holds-none q = zero_has_none (q % 64)

among-places_from : (base : ℕ) (words : List ℕ) (q : ℕ) → among (base + q) (places_from base words) ≡ holds words q
unfolding places_from
among-places_from base [] q = sym (holds-none q)
among-places_from base (word ∷ words) q =
    list_any-append (λ one. eqb one (base + q)) (bits_from base 64 word) (places_from (base + 64) words)
    ∙ elim (cases_lt q 64) [
      | inl less ↦ among_first less
      | inr more ↦ among_later (among-places_from (base + 64) words (q - 64)) more
    ]
  where
    or_none : (a b : Bool) → b ≡ false → (a || b) ≡ a
    or_none false b none = none
    or_none true b none = refl

    among_first : q < 64 → (among (base + q) (bits_from base 64 word) || among (base + q) (places_from (base + 64) words)) ≡ holds (word ∷ words) q
    among_first less =
        or_none _ _ (among_below (base + 64) (base + q) _ (omega arith) (rises_from_to _ _ _ (places_from_rise (base + 64) words)))
        ∙ among-bits 64 base word q less ∙ sym (holds-first word words q less)

    among_later : among (base + 64 + (q - 64)) (places_from (base + 64) words) ≡ holds words (q - 64) → 64 ≤ q
        → (among (base + q) (bits_from base 64 word) || among (base + q) (places_from (base + 64) words)) ≡ holds (word ∷ words) q
    among_later rest more =
        or_false _ _ (among_above base (base + 64) (base + q) _ (omega arith) (bits_rise base 64 word))
        ∙ ap (λ x. among x (places_from (base + 64) words)) (omega arith) ∙ rest ∙ sym (holds-later word words (q - 64)) ∙ ap (holds (word ∷ words)) (omega arith)

-- the list of places has those that the words hold
pub among-places : (words : List ℕ) (q : ℕ) → among q (places words) ≡ holds words q
unfolding places
among-places words q = ap (λ x. among x (places_from 0 words)) (omega arith) ∙ among-places_from 0 words q

-- words that hold the same places have the same list of them
pub same_places : (old new : List ℕ) → ((q : ℕ) → holds new q ≡ holds old q) → places new ≡ places old
same_places old new same =
    same_lists 0 _ _ (places_rise new) (places_rise old) (λ q. among-places new q ∙ same q ∙ sym (among-places old q))
