-- Lists of answers as they grow.
use Rattle.std.proofs.Common.{◌≡◌, ◌∙◌, ℕ, ◌+◌, ◌<◌, Bool, true, false, cond, List, [], ◌∷◌, ◌++◌, length, take, get_or, refl, sym, ap, append_assoc}
use Rattle.std.specs.List.{flat_map}
use Rattle.std.proofs.lemmas.List.{append-nil, take_more}
use Rattle.std.proofs.lemmas.Grind.{flat_map-append}
use Rattle.access_vectors.specs.declared.class.Class.{Class}
use Rattle.access_vectors.specs.declared.class.Class.TheVariants.{File}
use Rattle.access_vectors.specs.Table.{classes}
use Rattle.policy_answers.specs.declared.differing.Difference.{Difference}

-- some more behind a list, where the answer is yes
pub more_if : {X : Type 0} (yes : Bool) (xs more : List X) → cond yes (xs ++ more) xs ≡ xs ++ cond yes more []
more_if true xs more = refl
more_if false xs more = sym (append-nil xs)

-- and where it is no
pub more_unless : {X : Type 0} (yes : Bool) (xs more : List X) → cond yes xs (xs ++ more) ≡ xs ++ cond yes [] more
more_unless true xs more = sym (append-nil xs)
more_unless false xs more = refl

-- one class more
pub classes_more : {X : Type 0} (list : Class → List X) (i : ℕ) (start before after : List X) → i < length classes → before ≡ start ++ flat_map list (take i classes) → after ≡ before ++ list (get_or classes i File)
    → after ≡ start ++ flat_map list (take (i + 1) classes)
classes_more list i start before after within stood more =
    let next : flat_map list (take (i + 1) classes) ≡ flat_map list (take i classes) ++ list (get_or classes i File) =
    ap (flat_map list) (take_more classes i File within) ∙ flat_map-append list (take i classes) (get_or classes i File ∷ []) ∙ ap (λ last. flat_map list (take i classes) ++ last) (append-nil (list (get_or classes i File))) in
    more ∙ ap (λ front. front ++ list (get_or classes i File)) stood ∙ append_assoc start (flat_map list (take i classes)) (list (get_or classes i File)) ∙ ap (λ back. start ++ back) (sym next)

-- one difference more
pub differences_more : {X : Type 0} (list : Difference → List X) (all : List Difference) (i : ℕ) (one : Difference) (before after : List X) → i < length all → one ≡ get_or all i one → before ≡ flat_map list (take i all) → after ≡ before ++ list one
    → after ≡ flat_map list (take (i + 1) all)
differences_more list all i one before after within is stood more =
    let next : flat_map list (take (i + 1) all) ≡ flat_map list (take i all) ++ list (get_or all i one) =
    ap (flat_map list) (take_more all i one within) ∙ flat_map-append list (take i all) (get_or all i one ∷ []) ∙ ap (λ last. flat_map list (take i all) ++ last) (append-nil (list (get_or all i one))) in
    more ∙ ap (λ front. front ++ list one) stood ∙ ap (λ last. flat_map list (take i all) ++ list last) is ∙ sym next
