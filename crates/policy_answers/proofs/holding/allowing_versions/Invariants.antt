use Rattle.std.proofs.Common.{◌≡◌}
use Rattle.audit_allow.specs.Grants.{joined_below}
use Rattle.policy_answers.specs.Holders.{allowing_at}
use Rattle.policy_answers.proofs.holding.allowing_versions.Given as goal

abbrev pub invariant-versions : goal.invariant-versions
invariant-versions l = l.versions ≡ joined_below l.version (allowing_at l.policy l.s l.t l.perm)
