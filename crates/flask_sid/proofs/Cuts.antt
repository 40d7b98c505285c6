-- Cutting a list at the first element that passes a test.
use Rattle.std.proofs.Common.{◌≡◌, ◌<◌, ◌+◌, ℕ, Bool, true, false, cond, ltb, List, ◌∷◌, [], length, take, drop, refl, sym, ◌∙◌, arith, Some, None}
use Rattle.std.specs.List.{position, position_from, position_or_len, slice_split, onto_first}
use Rattle.std.proofs.lemmas.List.Splits.{slice_split_first}
use Rattle.std.proofs.lemmas.Iterator.Adapters.{position_from-zero}
use Rattle.std.proofs.lemmas.Bool.Decides.{nat_tests}

-- the place at which a search stops
found_is : {X : Type 0} (p : X → Bool) (xs : List X) (i : ℕ) → position p xs ≡ Some i → (i < length xs) × (position_or_len p xs ≡ i)
found_is p xs i found =
    elim (ltb (position_or_len p xs) (length xs)) as (λ b. ltb (position_or_len p xs) (length xs) ≡ b → cond b (Some (position_or_len p xs)) None ≡ Some i → (i < length xs) × (position_or_len p xs ≡ i)) [
      | true ↦ λ is e. let same : position_or_len p xs ≡ i = cc in (grind (arith, nat_tests), same)
      | false ↦ λ is e. cc
    ] refl found

-- the parts round the place of the first separator
pub cut_at : {X : Type 0} (p : X → Bool) (xs : List X) (d : X) (i : ℕ) → position p xs ≡ Some i → (i < length xs) × (slice_split p xs ≡ take i xs ∷ slice_split p (drop (i + 1) xs))
cut_at p xs d i found =
    let at = found_is p xs i found in
    let within : position_or_len p xs < length xs = omega arith in
    (at.0, rw (slice_split_first p xs d within, at.1) refl)

-- one part, where no element from the front on passes
uncut_from : {X : Type 0} (p : X → Bool) (k : ℕ) (xs : List X) → position_from p k xs ≡ None → slice_split p xs ≡ xs ∷ []
uncut_from p k [] none = refl
uncut_from p k (x ∷ xs) none =
    elim (p x) as (λ b. cond b (Some k) (position_from p (k + 1) xs) ≡ None → cond b ([] ∷ slice_split p xs) (onto_first x (slice_split p xs)) ≡ (x ∷ xs) ∷ []) [
      | true ↦ λ e. cc
      | false ↦ λ e. rw (uncut_from p (k + 1) xs e) refl
    ] none

-- one part, where there is no separator
pub uncut : {X : Type 0} (p : X → Bool) (xs : List X) → position p xs ≡ None → slice_split p xs ≡ xs ∷ []
uncut p xs none = uncut_from p 0 xs (sym (position_from-zero p xs) ∙ none)
