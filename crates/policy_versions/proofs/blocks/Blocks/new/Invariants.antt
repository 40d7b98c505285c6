use Rattle.std.proofs.Common.{◌≡◌, length}
use Rattle.policy_versions.proofs.blocks.Blocks.new.Given as goal

abbrev pub invariant-classes : goal.invariant-classes
invariant-classes l = length l.blocks.items ≡ l._made
