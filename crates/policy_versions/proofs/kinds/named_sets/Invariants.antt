use Rattle.policy_versions.specs.Kinds.{AreNamed}
use Rattle.policy_versions.proofs.kinds.named_sets.Given as goal

abbrev pub invariant-kinds : goal.invariant-kinds
invariant-kinds l = AreNamed l.policy l.named

abbrev pub invariant-attributes : goal.invariant-attributes
invariant-attributes l = AreNamed l.policy l.named
