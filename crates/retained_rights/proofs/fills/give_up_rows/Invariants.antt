use Rattle.std.proofs.Common.{◌≡◌, ℕ, ◌-◌}
use Rattle.slot_tables.specs.Rows.{on}
use Rattle.retained_rights.proofs.fills.give_up_rows.Given as goal

abbrev pub invariant-loop-place : goal.invariant-loop-place
invariant-loop-place l = (n q : ℕ) → on l.by_pair n q ≡ on l.fn.by_pair n q

abbrev pub decreases-loop-place : goal.decreases-loop-place
decreases-loop-place l = 65536 - l.from
