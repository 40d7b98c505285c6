use Rattle.slot_tables.proofs.SlotLemmas.{map_of-set}
use Rattle.slot_tables.proofs.table.Table.set.Goals as goal

pub returns-clause-map : goal.returns-clause-map
returns-clause-map g c = rw (← c.self.view_is) (map_of-set c.self.inside.slots.items c.args.place c.args.value (rw (← c.self.view_is) at c.requires))
