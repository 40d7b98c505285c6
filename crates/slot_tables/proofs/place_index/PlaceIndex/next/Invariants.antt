use Rattle.std.proofs.Common.{◌-◌}
use Rattle.slot_tables.proofs.RowLemmas.{IsPassed}
use Rattle.slot_tables.proofs.place_index.PlaceIndex.next.Given as goal

abbrev pub invariant-loop-low : goal.invariant-loop-low
invariant-loop-low l = IsPassed l.self-inside.rows.entries l.name l.from l.low

abbrev pub decreases-loop-low : goal.decreases-loop-low
decreases-loop-low l = l.end - l.low
