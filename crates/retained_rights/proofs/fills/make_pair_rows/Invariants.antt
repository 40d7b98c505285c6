use Rattle.std.proofs.Common.{◌-◌}
use Rattle.slot_tables.specs.Slots.{map_of}
use Rattle.retained_rights.proofs.IndexLemmas.{IsMade}
use Rattle.retained_rights.proofs.fills.make_pair_rows.Given as goal

abbrev pub invariant-loop-place : goal.invariant-loop-place
invariant-loop-place l = IsMade (map_of l.table) l.fn.by_pair l.by_pair l.object l.t l.from

abbrev pub decreases-loop-place : goal.decreases-loop-place
decreases-loop-place l = 65536 - l.from
