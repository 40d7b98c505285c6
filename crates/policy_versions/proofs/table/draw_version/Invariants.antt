use Rattle.std.proofs.Common.{◌≡◌, ℕ, ◌+◌, ◌*◌, ◌<◌, ◌≤◌, length, get_or}
use Rattle.policy_versions.specs.declared.block.Block.{Block}
use Rattle.policy_versions.specs.Cells.{KeepsRows, StandsAt}
use Rattle.policy_versions.proofs.table.draw_version.Given as goal

abbrev pub invariant-classes : goal.invariant-classes
invariant-classes l = record {
  few : length l.rows.items ≤ length l.initial.rows.items + 128 * l.at;
  keeps : KeepsRows l.initial.rows.items l.rows.items;
  size : length l.firsts ≡ 5;
  stand : (k : ℕ) (none : Block) → k < l.at → StandsAt l.rows.items (get_or l.blocks.drawn.items k none).rows.items (get_or l.firsts k 0);
}
