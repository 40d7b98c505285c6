-- A short text is no long path: it has few parts, and each of them is short.
use Rattle.std.proofs.Common.{◌≡◌, ◌<◌, ◌≤◌, ◌+◌, ◌∙◌, ℕ, Bool, true, false, ltb, List, [], ◌∷◌, length, refl, sym, arith}
use Rattle.std.specs.List.{All, list_any, onto_first, slice_split}
use Rattle.std.proofs.lemmas.Bool.Decides.{nat_tests}
use Rattle.std.proofs.lemmas.List.Elements.{All-nil, All-cons, All-head, All-tail, All-weaker}
use Rattle.std.proofs.lemmas.List.Folds.{list_any_none}
use Rattle.std.proofs.lemmas.List.Splits.{slice_split-cons_yes, slice_split-cons_no, length-slice_split}
use Rattle.std.proofs.lemmas.List.Sums.{count_by-le-length}
use Rattle.flask_sid.specs.Names.{is_long}
use Rattle.session_forms.specs.PathForms.{is_long_path, is_slash}

-- a part with one byte more at its front, and the parts behind it
onto_within : (b n m : ℕ) (parts : List (List ℕ)) → n < m → All (λ (part : List ℕ). length part ≤ n) parts → All (λ (part : List ℕ). length part ≤ m) (onto_first b parts)
onto_within b n m [] low within = All-cons (λ (part : List ℕ). length part ≤ m) (b ∷ []) [] (omega (arith, low)) (All-nil (λ (part : List ℕ). length part ≤ m))
onto_within b n m (part ∷ parts) low within =
    let here : length part ≤ n = All-head (λ (one : List ℕ). length one ≤ n) part parts within in
    All-cons (λ (one : List ℕ). length one ≤ m) (b ∷ part) parts (omega (arith, here, low))
    (All-weaker (λ (one : List ℕ). length one ≤ n) (λ (one : List ℕ). length one ≤ m) (λ one h. omega (arith, h, low)) parts (All-tail (λ (one : List ℕ). length one ≤ n) part parts within))

-- no part of a text is longer than the text
parts_within : (text : List ℕ) → All (λ (part : List ℕ). length part ≤ length text) (slice_split is_slash text)
parts_within [] = All-cons (λ (part : List ℕ). length part ≤ 0) [] [] (omega arith) (All-nil (λ (part : List ℕ). length part ≤ 0))
parts_within (b ∷ bs) = by_slash (is_slash b) refl (parts_within bs)
  where
    more : (part : List ℕ) → length part ≤ length bs → length part ≤ length (b ∷ bs)
    more part h = omega (arith, h)

    by_slash : (v : Bool) → is_slash b ≡ v → All (λ (part : List ℕ). length part ≤ length bs) (slice_split is_slash bs) → All (λ (part : List ℕ). length part ≤ length (b ∷ bs)) (slice_split is_slash (b ∷ bs))
    by_slash true slash within = rw (slice_split-cons_yes is_slash b bs slash) (All-cons (λ (part : List ℕ). length part ≤ length (b ∷ bs)) [] (slice_split is_slash bs) (omega arith) (All-weaker (λ (part : List ℕ). length part ≤ length bs) (λ (part : List ℕ). length part ≤ length (b ∷ bs)) more (slice_split is_slash bs) within))
    by_slash false other within = rw (slice_split-cons_no is_slash b bs other) (onto_within b (length bs) (length (b ∷ bs)) (slice_split is_slash bs) (omega arith) within)

-- a part of at most 15 bytes is not too long
short_part : (n : ℕ) (part : List ℕ) → n < 16 → length part ≤ n → is_long part ≡ false
unfolding is_long
short_part n part few within = grind (arith, nat_tests, few, within)

-- a text of at most 15 bytes is no long path
pub short_path : (text : List ℕ) → length text < 16 → is_long_path (slice_split is_slash text) ≡ false
unfolding is_long_path
short_path text few =
    let none : list_any is_long (slice_split is_slash text) ≡ false =
    list_any_none is_long (slice_split is_slash text)
    (All-weaker (λ (part : List ℕ). length part ≤ length text) (λ (part : List ℕ). is_long part ≡ false) (λ part h. short_part (length text) part few h) (slice_split is_slash text) (parts_within text)) in
    let size = length-slice_split is_slash text in
    let within = count_by-le-length is_slash text in
    let not_many : ltb 16 (length (slice_split is_slash text)) ≡ false = grind (arith, nat_tests, few, size, within) in
    rw (not_many, none) refl
