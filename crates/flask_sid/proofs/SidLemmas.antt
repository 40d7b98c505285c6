-- A new context in a table of identifiers gets the next number.
use Rattle.std.proofs.Common.{◌≡◌, ◌+◌, ℕ, Bool, true, false, List, ◌∷◌, [], ◌++◌, length, length-append, refl, arith, Some}
use Rattle.std.specs.List.{position, position_or_len, list_any}
use Rattle.std.proofs.lemmas.Cmp.{nat_list_eq_equiv}
use Rattle.std.proofs.lemmas.List.Folds.{position_or_len_push}
use Rattle.std.proofs.lemmas.Bool.Decides.{nat_tests}
use Rattle.flask_sid.specs.declared.context.ContextOf.{ContextOf}
use Rattle.flask_sid.specs.SidTables.{is_same_context, is_kept, sid_of, with_context}

-- where no element passes, the first place that passes is the length
none_passes : {X : Type 0} (p : X → Bool) (xs : List X) → list_any p xs ≡ false → position_or_len p xs ≡ length xs
none_passes p [] none = refl
none_passes p (x ∷ xs) none = grind (arith, none_passes p xs)

-- and an element that passes is found once it is put last
found_last : {X : Type 0} (p : X → Bool) (xs : List X) (x : X) → list_any p xs ≡ false → p x ≡ true → position p (xs ++ x ∷ []) ≡ Some (length xs)
found_last p xs x none passes =
    let whole : position_or_len p xs ≡ length xs = none_passes p xs none in
    grind (arith, nat_tests, position_or_len_push p xs x, length-append xs (x ∷ []))

-- a context is the same as itself
same_itself : (context : ContextOf (List ℕ)) → is_same_context context context ≡ true
same_itself context = rw (nat_list_eq_equiv.refl context.user, nat_list_eq_equiv.refl context.role, nat_list_eq_equiv.refl context.kind) refl

pub sid_of_new : (contexts after : List (ContextOf (List ℕ))) (context : ContextOf (List ℕ)) (sid : ℕ) → is_kept contexts context ≡ false → after ≡ with_context contexts context → sid ≡ length contexts + 1 → sid_of after context ≡ Some sid
sid_of_new contexts after context sid new added next =
    let last : sid_of (contexts ++ context ∷ []) context ≡ Some (length contexts + 1) = rw (found_last (is_same_context context) contexts context new (same_itself context)) refl in
    let at_end : after ≡ contexts ++ context ∷ [] = rw new at added in
    rw (at_end, next) last
