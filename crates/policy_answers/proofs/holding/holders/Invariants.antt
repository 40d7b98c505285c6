use Rattle.std.proofs.Common.{◌≡◌}
use Rattle.audit_allow.specs.Grants.{joined_below}
use Rattle.policy_answers.specs.Holders.{holder_at}
use Rattle.policy_answers.proofs.holding.holders.Given as goal

abbrev pub invariant-types : goal.invariant-types
invariant-types l = l.found ≡ joined_below l.s (holder_at l.policy l.version l.t l.perm)
