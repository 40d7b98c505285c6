use Rattle.std.proofs.Common.{arith}
use Rattle.slot_tables.proofs.SlotLemmas.{map_of-clear, map_of-past}
use Rattle.slot_tables.proofs.table.Table.clear.Goals as goal

pub returns-then-place-len-clause-map : goal.returns-then-place-len-clause-map
returns-then-place-len-clause-map g c = rw (← c.self.view_is) (map_of-clear c.self.inside.slots.items c.args.place (omega arith))

pub returns-else-place-len-clause-map : goal.returns-else-place-len-clause-map
returns-else-place-len-clause-map g c = rw (← c.self.view_is) (map_of-past c.self.inside.slots.items c.args.place (omega arith))
