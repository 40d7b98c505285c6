use Rattle.std.proofs.Common.{◌≡◌, None}
use Rattle.policy_versions.specs.Nevers.{first_below, break_at}
use Rattle.policy_versions.proofs.nevers.break_among.Given as goal

abbrev pub invariant-targets : goal.invariant-targets
invariant-targets l = first_below l.place (break_at l.policy l.version l.pattern l.s) ≡ None
