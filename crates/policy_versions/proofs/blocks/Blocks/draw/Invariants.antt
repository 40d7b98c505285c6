use Rattle.std.proofs.Common.{get_or, take}
use Rattle.access_vectors.specs.declared.class.Class.{Class}
use Rattle.policy_model.specs.declared.policy.PolicyParts.{PolicyParts}
use Rattle.policy_versions.specs.declared.block.Block.{Block}
use Rattle.policy_versions.specs.Kinds.{AreKindsOf}
use Rattle.policy_versions.specs.Cells.{class_place}
use Rattle.policy_versions.specs.Changes.{AreRules, AllTell}
use Rattle.policy_versions.proofs.blocks.Blocks.draw.Given as goal

abbrev pub invariant-rules : goal.invariant-rules
invariant-rules l =
    (policy : PolicyParts) (class : Class) (none : Block) → AreKindsOf policy l.kinds → AreRules policy l.rules
    → AllTell l.content policy (take l.rule-index l.rules) class (get_or l.self.drawn.items (class_place class) none).rows.items
