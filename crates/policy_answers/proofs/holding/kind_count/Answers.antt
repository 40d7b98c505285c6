use Rattle.std.proofs.Common.{◌≤◌, length, arith}
use Rattle.policy_versions.proofs.KindLemmas.{kinds_few}
use Rattle.policy_answers.proofs.holding.kind_count.Goals as goal

pub overflow_cast-result : goal.overflow_cast-result
overflow_cast-result c =
    let few : length c.args.policy.now.kinds ≤ 128 = kinds_few _ c.parts.ensures.kept in
    rw (c.len.ensures, c.parts.ensures.parts) (omega (arith, few))

pub returns-clause-few : goal.returns-clause-few
returns-clause-few c = kinds_few _ c.parts.ensures.kept
