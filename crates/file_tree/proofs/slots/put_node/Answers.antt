use Rattle.slot_tables.proofs.SlotLemmas.{map_of-set}
use Rattle.file_tree.proofs.slots.put_node.Goals as goal

pub returns-clause-map : goal.returns-clause-map
returns-clause-map c = map_of-set c.args.slots.now.items c.args.number c.args.node c.requires
