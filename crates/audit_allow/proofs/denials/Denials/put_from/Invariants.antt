use Rattle.std.proofs.Common.{◌≡◌, ◌++◌}
use Rattle.audit_allow.specs.Grants.{joined_below, grants_between}
use Rattle.audit_allow.proofs.denials.Denials.put_from.Given as goal

abbrev pub invariant-targets : goal.invariant-targets
invariant-targets l = l.grants ≡ l.fn.grants ++ joined_below l.t (grants_between l.list l.self l.s)
