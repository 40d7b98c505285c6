use Rattle.std.proofs.Common.{◌≡◌, None}
use Rattle.policy_versions.specs.Nevers.{first_below, break_from}
use Rattle.policy_versions.proofs.nevers.break_of.Given as goal

abbrev pub invariant-sources : goal.invariant-sources
invariant-sources l = first_below l.place (break_from l.policy l.version l.pattern) ≡ None
