use Rattle.slot_tables.proofs.SlotLemmas.{map_of-set}
use Rattle.port_store.proofs.table.put.Goals as goal

pub returns : goal.returns
returns c = map_of-set c.args.table.now.items c.args.port c.args.queue c.requires
