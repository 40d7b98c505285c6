-- Elements of lists, by their places.
use Rattle.std.proofs.Common.{◌≡◌, ℕ, zero, suc, ◌<◌, Bool, true, List, [], ◌∷◌, map, length, Some, refl, ap, arith}
use Rattle.std.specs.Prelude.{All, slice_get}
use Rattle.std.specs.List.{AllZip}
use Rattle.std.proofs.lemmas.List.Elements.{All-head, All-tail, All-cons}
use mathlib.Core.Option.{some}
use lib.ListN.{get_elem?}

pub no_items : {X : Type 0} (items : List X) → length items ≡ 0 → items ≡ []
no_items [] none = refl
no_items (x ∷ items) none = let no : ⊥ = omega (arith, none) in absurd no

pub map_map : {X Y Z : Type 0} (f : Y → Z) (g : X → Y) (xs : List X) → map f (map g xs) ≡ map (λ x. f (g x)) xs
map_map f g [] = refl
map_map {Z = Z} f g (x ∷ xs) = ap (λ (l : List Z). f (g x) ∷ l) (map_map f g xs)

pub map_length : {X Y : Type 0} (f : X → Y) (xs : List X) → length (map f xs) ≡ length xs
map_length f [] = refl
map_length f (x ∷ xs) = ap suc (map_length f xs)

pub item_at : {X : Type 0} (xs : List X) (k : ℕ) → k < length xs → (x : X) × (slice_get xs k ≡ Some x)
item_at [] k below = let no : ⊥ = omega (arith, below) in absurd no
item_at (x ∷ xs) zero below = (x, refl)
item_at (x ∷ xs) (suc k) below = item_at xs k (omega (arith, below))

pub mapped_at : {X Y : Type 0} (f : X → Y) (xs : List X) (k : ℕ) (x : X) → slice_get xs k ≡ Some x → get_elem? (map f xs) k ≡ some (f x)
mapped_at f [] k x is = cc
mapped_at f (y ∷ xs) zero x is = let here : y ≡ x = cc in ap (λ z. some (f z)) here
mapped_at f (y ∷ xs) (suc k) x is = mapped_at f xs k x is

pub all_at : {X : Type 0} (P : X → Type 0) (xs : List X) (k : ℕ) (x : X) → All P xs → slice_get xs k ≡ Some x → P x
all_at P [] k x all is = let no : ⊥ = cc in absurd no
all_at P (y ∷ xs) zero x all is = let here : y ≡ x = cc in rw (← here) (All-head P y xs all)
all_at P (y ∷ xs) (suc k) x all is = all_at P xs k x (All-tail P y xs all) is

-- what stands at a place of the second of two lists is related to what stands there in the first
pub zip_at : {X : Type 0} (R : X → X → Type 0) (xs ys : List X) (k : ℕ) (y : X) → AllZip R xs ys → slice_get ys k ≡ Some y → (x : X) × (slice_get xs k ≡ Some x) × R x y
zip_at R [] [] k y zip is = let no : ⊥ = cc in absurd no
zip_at R [] (z ∷ ys) k y zip is = absurd zip
zip_at R (x ∷ xs) [] k y zip is = absurd zip
zip_at R (x ∷ xs) (z ∷ ys) zero y zip is = let here : z ≡ y = cc in (x, refl, rw (← here) zip.0)
zip_at R (x ∷ xs) (z ∷ ys) (suc k) y zip is = zip_at R xs ys k y zip.1 is

-- what holds of the second of two related items holds of each item of the second list
pub zip_all : {X : Type 0} (R : X → X → Type 0) (P : X → Type 0) → ((x y : X) → R x y → P y) → (xs ys : List X) → AllZip R xs ys → All P ys
zip_all R P holds [] [] zip = λ k d below. let no : ⊥ = omega (arith, below) in absurd no
zip_all R P holds [] (y ∷ ys) zip = absurd zip
zip_all R P holds (x ∷ xs) [] zip = absurd zip
zip_all R P holds (x ∷ xs) (y ∷ ys) zip = All-cons P y ys (holds x y zip.0) (zip_all R P holds xs ys zip.1)

-- two lists whose items are related are so by a weaker relation
pub zip_weaker : {X : Type 0} (R S : X → X → Type 0) → ((x y : X) → R x y → S x y) → (xs ys : List X) → AllZip R xs ys → AllZip S xs ys
zip_weaker R S weaker [] [] zip = tt
zip_weaker R S weaker [] (y ∷ ys) zip = absurd zip
zip_weaker R S weaker (x ∷ xs) [] zip = absurd zip
zip_weaker R S weaker (x ∷ xs) (y ∷ ys) zip = (weaker x y zip.0, zip_weaker R S weaker xs ys zip.1)
