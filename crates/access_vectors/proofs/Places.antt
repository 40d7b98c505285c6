-- The first place that passes, in a list of images.
use Rattle.std.proofs.Common.{◌≡◌, ◌+◌, Bool, cond, ltb, not, List, [], ◌∷◌, map, length, Some, None, refl, ap, ◌∙◌}
use Rattle.std.specs.List.{prefix_len, position}
use Rattle.std.proofs.lemmas.List.{length-map}

pub prefix_len-map : {A B : Type 0} (p : B → Bool) (f : A → B) (xs : List A) → prefix_len p (map f xs) ≡ prefix_len (λ x. p (f x)) xs
prefix_len-map p f [] = refl
prefix_len-map p f (x ∷ xs) = ap (λ n. cond (p (f x)) (1 + n) 0) (prefix_len-map p f xs)

pub position-map : {A B : Type 0} (p : B → Bool) (f : A → B) (xs : List A) → position p (map f xs) ≡ position (λ x. p (f x)) xs
position-map p f xs =
    ap (λ n. cond (ltb (prefix_len (λ y. not (p y)) (map f xs)) n) (Some (prefix_len (λ y. not (p y)) (map f xs))) None) (length-map xs f)
    ∙ ap (λ n. cond (ltb n (length xs)) (Some n) None) (prefix_len-map (λ y. not (p y)) f xs)
