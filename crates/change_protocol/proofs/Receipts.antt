-- The receipts that are in.
use Rattle.std.proofs.Common.{◌≡◌, ℕ, zero, suc, ◌≤◌, Bool, false, List, [], ◌∷◌, length, take, replicate, Some, refl, arith}
use Rattle.std.specs.Prelude.{slice_get, ◌&&◌}
use Rattle.std.specs.List.{list_all}
use Rattle.security_server.specs.Numbering.{is_in}
use Rattle.change_protocol.specs.Changes.{is_kept}
use Rattle.change_protocol.specs.declared.answers.Said.{Said}

-- where none is in
pub none_in : (many place : ℕ) → is_in (replicate many false) place ≡ false
none_in zero place = refl
none_in (suc many) zero = refl
none_in (suc many) (suc place) = none_in many place

-- all receipts are in exactly where all say that theirs is kept
pub all_in_kept : (receipts : List Bool) (said : List Said) → length said ≤ length receipts
    → ((place : ℕ) (one : Said) → slice_get said place ≡ Some one → is_in receipts place ≡ is_kept one)
    → list_all (λ is_there. is_there) (take (length said) receipts) ≡ list_all is_kept said
all_in_kept receipts [] few each = refl
all_in_kept [] (one ∷ said) few each = absurd (omega arith)
all_in_kept (here ∷ receipts) (one ∷ said) few each =
    λ i. each zero one refl i && all_in_kept receipts said (omega arith) (λ place. each (suc place)) i
