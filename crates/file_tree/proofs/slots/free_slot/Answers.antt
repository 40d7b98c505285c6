use Rattle.std.proofs.Common.{◌∙◌, arith}
use Rattle.std.proofs.lemmas.Grind.{common_steps}
use Rattle.slot_tables.proofs.SlotLemmas.{get-map_of, map_of-pushed}
use Rattle.file_tree.proofs.TreeLemmas.{no_node}
use Rattle.file_tree.proofs.slots.free_slot.Goals as goal

pub returns-then-is_none-clause-unused : goal.returns-then-is_none-clause-unused
returns-then-is_none-clause-unused c = get-map_of c.args.slots.now.items c.in-Some.number ∙ (grind (arith, common_steps))

pub returns-clause-map : goal.returns-clause-map
returns-clause-map c = rw c.in_ok-push.ensures.items (map_of-pushed c.args.slots.now.items)

pub returns-clause-unused : goal.returns-clause-unused
returns-clause-unused c = no_node c.args.slots.now.items c.len-number.result (omega arith)
