use Rattle.std.proofs.Common.{◌≡◌, ◌+◌, ◌-◌, vec_len}
use Rattle.slot_tables.specs.Slots.{map_of}
use Rattle.port_store.proofs.table.make_room.Given as goal

abbrev pub invariant-loop-table : goal.invariant-loop-table
invariant-loop-table l = map_of l.table.items ≡ map_of l.fn.table.items

abbrev pub decreases-loop-table : goal.decreases-loop-table
decreases-loop-table l = l.port + 1 - vec_len l.table
