use Rattle.std.proofs.Common.{[], take}
use Rattle.std.specs.Str.{bytes_eq}
use Rattle.std.specs.HashMap.{get}
use Rattle.policy_versions.specs.Kinds.{AreSets}
use Rattle.policy_versions.proofs.kinds.sets_of.Given as goal

abbrev pub invariant-kinds : goal.invariant-kinds
invariant-kinds l = AreSets l.policy (take l.kind-index l.policy.kinds) [] (get bytes_eq l.sets)

abbrev pub invariant-attributes : goal.invariant-attributes
invariant-attributes l = AreSets l.policy l.policy.kinds (take l.attribute-index l.policy.attributes) (get bytes_eq l.sets)
