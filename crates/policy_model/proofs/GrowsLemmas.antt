-- Lists that grow, and tests that stay true as they do.
use Rattle.std.proofs.Common.{◌≡◌, ◌∙◌, Bool, true, false, List, [], ◌∷◌, ◌++◌, refl, sym, ap, subst, append_assoc}
use Rattle.std.specs.Prelude.{◌||◌}
use Rattle.std.specs.List.{list_all, list_any}
use Rattle.std.proofs.lemmas.List.{append-nil}
use Rattle.std.proofs.lemmas.List.Folds.{list_any-append}
use Rattle.std.proofs.lemmas.Bool.{and_parts, and_from}
use Rattle.policy_model.specs.Kept.{Grows}

-- one member more
pub grows_snoc : {X : Type 0} (May : List X → X → Type 0) (seen xs : List X) (x : X) → Grows May seen xs → May (seen ++ xs) x → Grows May seen (xs ++ x ∷ [])
grows_snoc May seen [] x g may = (subst (λ ys. May ys x) (append-nil seen) may, tt)
grows_snoc May seen (y ∷ ys) x g may =
    (g.0, grows_snoc May (seen ++ y ∷ []) ys x g.1 (subst (λ zs. May zs x) (sym (append_assoc seen (y ∷ []) ys)) may))

-- members that may follow more
pub grows_more : {X : Type 0} (May May' : List X → X → Type 0) → ((seen : List X) (x : X) → May seen x → May' seen x) → (seen xs : List X) → Grows May seen xs → Grows May' seen xs
grows_more May May' more seen [] g = tt
grows_more May May' more seen (x ∷ xs) g = (more seen x g.0, grows_more May May' more (seen ++ x ∷ []) xs g.1)

-- what one member passes, a longer list has too
pub any_append : {X : Type 0} (p : X → Bool) (xs ys : List X) → list_any p xs ≡ true → list_any p (xs ++ ys) ≡ true
any_append p xs ys h = list_any-append p xs ys ∙ ap (λ b. b || list_any p ys) h

-- where no member passes, and the new one does not either
pub none_snoc : {X : Type 0} (p : X → Bool) (xs : List X) (x : X) → list_any p xs ≡ false → p x ≡ false → list_any p (xs ++ x ∷ []) ≡ false
none_snoc p xs x none new =
    let last : (p x || false) ≡ false = ap (λ b. b || false) new in
    list_any-append p xs (x ∷ []) ∙ ap (λ b. b || list_any p (x ∷ [])) none ∙ last

-- a weaker test of each member
pub all_more : {X : Type 0} (p q : X → Bool) → ((x : X) → p x ≡ true → q x ≡ true) → (xs : List X) → list_all p xs ≡ true → list_all q xs ≡ true
all_more p q more [] h = refl
all_more p q more (x ∷ xs) h =
    let parts = and_parts (p x) (list_all p xs) h in
    and_from (q x) (list_all q xs) (more x parts.0) (all_more p q more xs parts.1)
