use Rattle.std.proofs.Common.{◌≡◌, ℕ, ◌+◌, ◌<◌, length, get_or}
use Rattle.policy_versions.specs.Changes.{no_row}
use Rattle.policy_versions.proofs.table.stands_at.Given as goal

abbrev pub invariant-loop-s : goal.invariant-loop-s
invariant-loop-s l = (k : ℕ) → k < l.s → (l.first + k < length l.rows) × (get_or l.rows (l.first + k) no_row ≡ get_or l.block.rows.items k no_row)
