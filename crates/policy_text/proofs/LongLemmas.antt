-- Words of which none is long.
use Rattle.std.proofs.Common.{◌≡◌, ◌≤◌, ℕ, false, List, length, arith}
use Rattle.std.specs.List.{All, list_any}
use Rattle.std.proofs.lemmas.List.Elements.{All-weaker}
use Rattle.std.proofs.lemmas.List.Folds.{list_any_none}
use Rattle.std.proofs.lemmas.Bool.Decides.{nat_tests}
use Rattle.flask_sid.specs.Names.{is_long}

-- words of at most 32 bytes
pub none_long : (words : List (List ℕ)) → All (λ (word : List ℕ). length word ≤ 32) words → list_any is_long words ≡ false
unfolding is_long
none_long words short =
    list_any_none is_long words
    (All-weaker (λ (word : List ℕ). length word ≤ 32) (λ (word : List ℕ). is_long word ≡ false) (λ word h. grind (arith, nat_tests, h)) words short)
