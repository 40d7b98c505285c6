use Rattle.std.proofs.Common.{◌≡◌, ◌+◌, ◌-◌, vec_len}
use Rattle.slot_tables.specs.Slots.{map_of}
use Rattle.slot_tables.proofs.table.Table.grow.Given as goal

abbrev pub invariant-loop-self : goal.invariant-loop-self
invariant-loop-self g l = map_of l.self-inside.slots.items ≡ map_of l.fn.self

abbrev pub decreases-loop-self : goal.decreases-loop-self
decreases-loop-self g l = l.place + 1 - vec_len l.self-inside.slots
