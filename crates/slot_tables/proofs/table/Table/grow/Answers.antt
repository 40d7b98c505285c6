use Rattle.std.proofs.Common.{◌∙◌}
use Rattle.slot_tables.proofs.SlotLemmas.{map_of-pushed}
use Rattle.slot_tables.proofs.table.Table.grow.Goals as goal

pub loop-self-preserved : goal.loop-self-preserved
loop-self-preserved g c = rw c.in_ok-push.ensures.items (map_of-pushed c.loop-self.self-inside.slots.items ∙ c.loop-self.invariant)
