use Rattle.std.proofs.Common.{◌≤◌, length, arith}
use Rattle.policy_versions.proofs.NameLemmas.{few_versions}
use Rattle.policy_answers.proofs.holding.version_count.Goals as goal

pub overflow_cast-result : goal.overflow_cast-result
overflow_cast-result c =
    let few : length c.args.policy.now.versions ≤ 64 = few_versions _ c.parts.ensures.kept in
    rw (c.len.ensures, c.parts.ensures.parts) (omega (arith, few))
