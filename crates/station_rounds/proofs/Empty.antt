-- The map in which nothing is has no entries.
use Rattle.std.proofs.Common.{◌≡◌, ℕ, List, [], ◌∷◌, length, refl, sym, ◌∙◌, arith}
use Rattle.std.specs.Ordering.{nat_cmp}
use Rattle.std.specs.FinMap as maps

none_of : {A : Type 0} (xs : List A) → length xs ≡ 0 → xs ≡ []
none_of [] e = refl
none_of (x ∷ xs) e = absurd (omega arith)

pub entries_empty : maps.entries (maps.empty {X = ℕ} {R = nat_cmp}) ≡ []
entries_empty = none_of (maps.entries (maps.empty {X = ℕ} {R = nat_cmp})) (sym (maps.len-entries (maps.empty {X = ℕ} {R = nat_cmp})) ∙ maps.len-empty nat_cmp ℕ)
