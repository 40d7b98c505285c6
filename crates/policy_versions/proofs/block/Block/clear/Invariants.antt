use Rattle.std.proofs.Common.{◌≡◌, ℕ, ◌<◌, get_or}
use Rattle.policy_versions.specs.Changes.{blank_row, cell_of, no_row}
use Rattle.policy_versions.proofs.block.Block.clear.Given as goal

abbrev pub invariant-loop-row : goal.invariant-loop-row
invariant-loop-row l =
    ((s : ℕ) → s < l.row-index → get_or l.row-items s no_row ≡ blank_row)
    × ((s t : ℕ) → s < l.row-index → cell_of l.row-items s t ≡ 0)
