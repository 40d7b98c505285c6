use Rattle.std.proofs.Common.{◌∙◌}
use Rattle.slot_tables.proofs.SlotLemmas.{map_of-pushed}
use Rattle.port_store.proofs.table.make_room.Goals as goal

pub loop-table-preserved : goal.loop-table-preserved
loop-table-preserved c = rw c.in_ok-push.ensures.items (map_of-pushed c.loop-table.table.items ∙ c.loop-table.invariant)
