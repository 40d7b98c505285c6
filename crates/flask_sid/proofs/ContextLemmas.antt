-- A word with three colons or more is no context.
use Rattle.std.proofs.Common.{◌≡◌, ℕ, Bool, true, false, cond, List, ◌∷◌, [], refl, None}
use Rattle.std.specs.List.{slice_split, onto_first}
use Rattle.flask_sid.specs.Contexts.{context_of_parts}

onto_first_is_some : (user role kind : List ℕ) (b : ℕ) (parts : List (List ℕ)) → context_of_parts (user ∷ role ∷ kind ∷ onto_first b parts) ≡ None
unfolding context_of_parts
onto_first_is_some user role kind b [] = refl
onto_first_is_some user role kind b (part ∷ parts) = refl

pub four_parts : (p : ℕ → Bool) (user role kind rest : List ℕ) → context_of_parts (user ∷ role ∷ kind ∷ slice_split p rest) ≡ None
unfolding context_of_parts
four_parts p user role kind [] = refl
four_parts p user role kind (b ∷ bs) =
    elim (p b) as (λ v. context_of_parts (user ∷ role ∷ kind ∷ cond v ([] ∷ slice_split p bs) (onto_first b (slice_split p bs))) ≡ None) [
      | true ↦ refl
      | false ↦ onto_first_is_some user role kind b (slice_split p bs)
    ]
