use Rattle.std.proofs.Common.{◌≡◌, ◌++◌}
use Rattle.audit_allow.specs.Grants.{joined_below}
use Rattle.policy_answers.specs.Relabels.{relabels_between}
use Rattle.policy_answers.proofs.relabelling.put_from.Given as goal

abbrev pub invariant-targets : goal.invariant-targets
invariant-targets l = l.found ≡ l.fn.found ++ joined_below l.t (relabels_between l.policy l.versions.before l.versions.after l.s)
