use Rattle.std.proofs.Common.{◌≡◌}
use Rattle.audit_allow.specs.Grants.{joined_below}
use Rattle.policy_answers.specs.Deciders.{decision_at}
use Rattle.policy_answers.proofs.deciding.decisions.Given as goal

abbrev pub invariant-indexes : goal.invariant-indexes
invariant-indexes l = l.found ≡ joined_below l.index (decision_at l.policy l.version l.s l.t l.class)
