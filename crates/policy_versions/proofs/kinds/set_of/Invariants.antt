use Rattle.std.proofs.Common.{take}
use Rattle.policy_versions.specs.Sets.{has_place}
use Rattle.policy_versions.proofs.KindLemmas.{IsSetBelow}
use Rattle.policy_versions.proofs.kinds.set_of.Given as goal

abbrev pub invariant-attributes : goal.invariant-attributes
invariant-attributes l = IsSetBelow l.policy.kinds (take l.attribute-index l.policy.attributes) l.name (has_place l.set.words)
