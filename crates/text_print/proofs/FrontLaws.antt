-- What stands at the front of a text stays there.
use Rattle.std.proofs.Common.{◌≡◌, ◌∙◌, ℕ, ◌≤◌, List, ◌++◌, take, length, Result, Ok, Err, OnErr, sym, ap, length-append, arith}
use Rattle.std.proofs.lemmas.List.{take-take}
use Rattle.std.proofs.Math.Seq.{take-append_seam}
use Rattle.text_print.specs.Fronts.{IsFront}

-- the front of a front
pub front_behind : (old more mid new : List ℕ) → mid ≡ old ++ more → IsFront mid new → IsFront old new
front_behind old more mid new grown front =
    let long : length old ≤ length mid = omega (arith, length-append old more, ap length grown) in
    sym (take-take (length old) (length mid) new long) ∙ ap (take (length old)) front ∙ ap (take (length old)) grown ∙ take-append_seam old more

-- what is so anyway is so after an error
pub on_err : {T E : Type 0} {P : Type 0} (result : Result T E) → P → OnErr result P
on_err (Ok _) p = tt
on_err (Err _) p = p

-- of one error one thing follows from another
pub err_behind : {T E : Type 0} (result : Result T E) (old more mid new : List ℕ) → mid ≡ old ++ more → OnErr result (IsFront mid new) → OnErr result (IsFront old new)
err_behind (Ok _) old more mid new grown front = tt
err_behind (Err _) old more mid new grown front = front_behind old more mid new grown front
