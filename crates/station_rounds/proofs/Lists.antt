-- What holds of each item of a list that others were made into.
use Rattle.std.proofs.Common.{◌≡◌, ◌∙◌, ℕ, List, [], ◌∷◌, ◌++◌, length, take, drop, ap, arith, append-nil}
use Rattle.std.proofs.lemmas.List.{take_all, drop_all}
use Rattle.std.specs.Prelude.{All}
use Rattle.std.specs.List.{AllZip}
use Rattle.std.proofs.lemmas.List.Elements.{All-nil, All-cons}

-- what each item of the second list has, whatever item of the first it came from
pub all_after : {X : Type 0} (P : X → Type 0) (xs ys : List X) → AllZip (λ x y. P y) xs ys → All P ys
all_after P [] [] zip = All-nil P
all_after P [] (y ∷ ys) zip = absurd zip
all_after P (x ∷ xs) [] zip = absurd zip
all_after P (x ∷ xs) (y ∷ ys) zip = All-cons P y ys zip.0 (all_after P xs ys zip.1)

-- a list that was changed whole, as a slice of it
pub whole : {X : Type 0} (items each : List X) (n : ℕ) → n ≡ length items → length each ≡ length items → take n (each ++ drop (length each) items) ≡ each
whole {X} items each n long same =
    ap (λ (l : List X). take n (each ++ l)) (drop_all (length each) items (omega (arith, same))) ∙ ap (take n) (append-nil each) ∙ take_all n each (omega (arith, long, same))
