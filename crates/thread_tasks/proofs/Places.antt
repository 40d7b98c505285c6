-- Two lists that are related at each place.
use Rattle.std.proofs.Common.{◌≡◌, ℕ, suc, ◌<◌, List, [], ◌∷◌, length, slice_index_or, arith}
use Rattle.std.specs.List.{AllZip}

pub zip_from_places : {X : Type 0} (R : X → X → Type 0) (xs ys : List X) → length ys ≡ length xs
    → ((i : ℕ) (d : X) → i < length xs → R (slice_index_or xs i d) (slice_index_or ys i d)) → AllZip R xs ys
zip_from_places R [] [] same at = tt
zip_from_places R [] (y ∷ ys) same at = let no : ⊥ = omega arith in absurd no
zip_from_places R (x ∷ xs) [] same at = let no : ⊥ = omega arith in absurd no
zip_from_places R (x ∷ xs) (y ∷ ys) same at = (at 0 x (omega arith), zip_from_places R xs ys (omega arith) (λ i d lt. at (suc i) d (omega arith)))
