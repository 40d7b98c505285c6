use Rattle.std.proofs.Common.{◌≡◌}
use Rattle.audit_allow.specs.Grants.{joined_below, grants_from}
use Rattle.audit_allow.proofs.denials.Denials.grants.Given as goal

abbrev pub invariant-sources : goal.invariant-sources
invariant-sources l = l.grants ≡ joined_below l.s (grants_from l.list l.self)
