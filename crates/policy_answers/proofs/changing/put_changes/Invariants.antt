use Rattle.std.proofs.Common.{◌≡◌, ◌++◌}
use Rattle.audit_allow.specs.Grants.{joined_below}
use Rattle.policy_answers.specs.Changes.{change_at}
use Rattle.policy_answers.proofs.changing.put_changes.Given as goal

abbrev pub invariant-indexes : goal.invariant-indexes
invariant-indexes l = l.found ≡ l.fn.found ++ joined_below l.index (change_at l.policy l.versions.before l.versions.after l.difference)
