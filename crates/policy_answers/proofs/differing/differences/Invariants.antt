use Rattle.std.proofs.Common.{◌≡◌}
use Rattle.audit_allow.specs.Grants.{joined_below}
use Rattle.policy_answers.specs.Differences.{differences_from}
use Rattle.policy_answers.proofs.differing.differences.Given as goal

abbrev pub invariant-sources : goal.invariant-sources
invariant-sources l = l.found ≡ joined_below l.s (differences_from l.policy l.before l.after)
