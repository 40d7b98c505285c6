use Rattle.std.proofs.Common.{◌≡◌, None}
use Rattle.policy_versions.specs.Nevers.{first_below, break_in}
use Rattle.policy_versions.proofs.nevers.first_break.Given as goal

abbrev pub invariant-versions : goal.invariant-versions
invariant-versions l = first_below l.version (break_in l.policy) ≡ None
