use Rattle.std.proofs.Common.{◌≡◌, ◌≤◌, ◌<◌, length, arith}
use Rattle.std.proofs.lemmas.Bool.Decides.{nat_tests}
use Rattle.policy_versions.proofs.NameLemmas.{few_versions}
use Rattle.flaskd_run.proofs.paths.find.Goals as goal

pub overflow_cast-asked : goal.overflow_cast-asked
overflow_cast-asked c =
    let few : length c.args.policy.now.versions ≤ 64 = few_versions c.args.policy.now c.parts.ensures.kept in
    let count : c.len.result ≡ length c.args.policy.now.versions = rw c.parts.ensures.parts at c.len.ensures in
    let below : c.args.asked.now.version < c.len.result = grind (arith, nat_tests) in
    omega (arith, few, count, below)
