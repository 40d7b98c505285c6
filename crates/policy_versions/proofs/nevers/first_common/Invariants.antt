use Rattle.std.proofs.Common.{◌≡◌, None}
use Rattle.policy_versions.specs.Nevers.{first_below, common}
use Rattle.policy_versions.proofs.nevers.first_common.Given as goal

abbrev pub invariant-indexes : goal.invariant-indexes
invariant-indexes l = first_below l.index (common l.class l.forbidden l.allowed) ≡ None
