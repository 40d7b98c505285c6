-- What the words of a line give of a path, and what steps of a reader give.
use Rattle.std.proofs.Common.{◌≡◌, ℕ, Bool, true, false, List, [], ◌∷◌, Option, None, Some, refl}
use Rattle.std.specs.Prelude.{IfSome, if◌then◌else◌, ◌==◌, ◌&&◌}
use Rattle.std.specs.List.{list_all}
use Rattle.text_lines.specs.OptionSteps.{◌>>=◌}
use Rattle.session_forms.specs.PathForms.{path_form, is_part_form, parts_behind}
use Rattle.session_forms.specs.ArgumentForms.{is_word, IsPathForm}
use Rattle.session_forms.proofs.WordLemmas.{AreWords, both}

-- what each arm of a choice gives
pub by_test : {X : Type 0} (P : X → Type 0) (b : Bool) (x y : Option X) → IfSome x P → IfSome y P → IfSome (if b then x else y) P
by_test P true x y here there = here
by_test P false x y here there = there

-- what the next step gives
pub by_step : {A X : Type 0} (P : X → Type 0) (found : Option A) (next : A → Option X) → ((a : A) → found ≡ Some a → IfSome (next a) P) → IfSome (found >>= next) P
by_step P None next each = tt
by_step P (Some a) next each = each a refl

-- what is found is what was given
pub if_found : {A : Type 0} (P : A → Type 0) (found : Option A) (a : A) → IfSome found P → found ≡ Some a → P a
if_found P found a given is = rw is at given

-- the parts of a path have their form
pub parts_given : (word : List ℕ) → IfSome (path_form word) IsPathForm
unfolding path_form
parts_given [] = tt
parts_given (b ∷ bs) =
    elim (b == 47) as (λ (slash : Bool). IfSome (if slash && list_all is_part_form (parts_behind bs) then Some (parts_behind bs) else None) (λ parts. list_all is_part_form parts ≡ true)) [
      | true ↦ elim (list_all is_part_form (parts_behind bs)) as (λ (all : Bool). list_all is_part_form (parts_behind bs) ≡ all → IfSome (if all then Some (parts_behind bs) else None) (λ parts. list_all is_part_form parts ≡ true)) [
        | true ↦ λ all. all
        | false ↦ λ some. tt
      ] refl
      | false ↦ tt
    ]

-- the words behind the first
pub words_behind : (word : List ℕ) (words : List (List ℕ)) → AreWords (word ∷ words) → AreWords words
words_behind word words are = (both (is_word word) (list_all is_word words) are).1
