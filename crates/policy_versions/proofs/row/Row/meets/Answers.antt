use Rattle.std.proofs.Common.{◌≡◌, ◌∙◌, ◌==◌, true, sym, arith}
use Rattle.std.proofs.lemmas.Bool.Decides.{nat_tests}
use Rattle.policy_versions.proofs.row.Row.meets.Goals as goal

pub returns-in-Some : goal.returns-in-Some
returns-in-Some c = λ none t within has.
    let hit : (c.in-Some.target == t) ≡ true = sym (c.in-Some.ensures.alone t within) ∙ has in
    let same : c.in-Some.target ≡ t = grind (arith, nat_tests, hit) in
    rw (← same) (grind (arith, nat_tests, none))
