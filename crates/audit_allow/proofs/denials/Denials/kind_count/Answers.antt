use Rattle.std.proofs.Common.{◌≡◌, ◌≤◌, length, arith}
use Rattle.policy_versions.proofs.KindLemmas.{kinds_few}
use Rattle.audit_allow.proofs.denials.Denials.kind_count.Goals as goal

pub overflow_cast-result : goal.overflow_cast-result
overflow_cast-result c =
    let few : length c.self.inside.policy.now.kinds ≤ 128 = kinds_few c.self.inside.policy.now c.self.invariant.0 in
    let same : c.len.result ≡ length c.self.inside.policy.now.kinds = c.len.ensures in
    omega arith
