-- What holds of each member of a list that grew lawfully.
use Rattle.std.proofs.Common.{◌≡◌, ℕ, zero, suc, ◌+◌, ◌<◌, ◌≤◌, List, [], ◌∷◌, ◌++◌, length, get_or, take, sym, subst, append_assoc, arith}
use Rattle.std.proofs.lemmas.List.{append-nil, length-append}
use Rattle.policy_model.specs.Kept.{Grows}

-- each member may follow those before it
pub grows_at : {X : Type 0} (May : List X → X → Type 0) (seen xs : List X) → Grows May seen xs → (k : ℕ) (d : X) → k < length xs → May (seen ++ take k xs) (get_or xs k d)
grows_at May seen [] g k d h = absurd (omega arith)
grows_at May seen (x ∷ xs) g zero d h = subst (λ ys. May ys x) (sym (append-nil seen)) g.0
grows_at May seen (x ∷ xs) g (suc k) d h =
    subst (λ ys. May ys (get_or xs k d)) (append_assoc seen (x ∷ []) (take k xs)) (grows_at May (seen ++ x ∷ []) xs g.1 k d (omega arith))

-- where each member wants few before it, all are few
pub grows_few : {X : Type 0} (May : List X → X → Type 0) (limit : ℕ) → ((seen : List X) (x : X) → May seen x → length seen < limit) → (seen xs : List X) → length seen ≤ limit → Grows May seen xs → length seen + length xs ≤ limit
grows_few May limit few seen [] h g = omega arith
grows_few May limit few seen (x ∷ xs) h g =
    let one : length (seen ++ x ∷ []) ≡ length seen + 1 = length-append seen (x ∷ []) in
    let first : length seen < limit = few seen x g.0 in
    let rest : length (seen ++ x ∷ []) + length xs ≤ limit = grows_few May limit few (seen ++ x ∷ []) xs (omega arith) g.1 in
    omega arith
