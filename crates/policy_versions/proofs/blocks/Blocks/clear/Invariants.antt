use Rattle.std.proofs.Common.{◌≡◌, ℕ, ◌<◌, get_or}
use Rattle.policy_versions.specs.declared.block.Block.{Block}
use Rattle.policy_versions.specs.Changes.{cell_of}
use Rattle.policy_versions.proofs.blocks.Blocks.clear.Given as goal

abbrev pub invariant-each : goal.invariant-each
invariant-each l = (at s t : ℕ) (none : Block) → at < l.block-index → s < 128 → cell_of (get_or l.block-items at none).rows.items s t ≡ 0
