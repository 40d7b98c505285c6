use Rattle.std.proofs.Common.{◌≡◌, None, take}
use Rattle.policy_versions.specs.Nevers.{first_of, break_of}
use Rattle.policy_versions.proofs.nevers.break_in.Given as goal

abbrev pub invariant-lines : goal.invariant-lines
invariant-lines l = first_of (break_of l.policy l.version) (take l.pattern-index l.policy.nevers) ≡ None
