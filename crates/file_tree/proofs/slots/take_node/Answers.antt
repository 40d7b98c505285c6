use Rattle.std.proofs.Common.{◌∙◌, sym, arith}
use Rattle.std.proofs.lemmas.Grind.{common_steps}
use Rattle.slot_tables.proofs.SlotLemmas.{get-map_of, map_of-past, map_of-clear}
use Rattle.file_tree.proofs.TreeLemmas.{no_node}
use Rattle.file_tree.proofs.slots.take_node.Goals as goal

pub returns-then-at-len-clause-node : goal.returns-then-at-len-clause-node
returns-then-at-len-clause-node c = sym (no_node c.args.slots.now.items c.args.number (omega arith))

pub returns-then-at-len-clause-map : goal.returns-then-at-len-clause-map
returns-then-at-len-clause-map c = map_of-past c.args.slots.now.items c.args.number (omega arith)

pub returns-clause-node : goal.returns-clause-node
returns-clause-node c = (grind (arith, common_steps)) ∙ sym (get-map_of c.args.slots.now.items c.args.number)

pub returns-clause-map : goal.returns-clause-map
returns-clause-map c = rw c.take.ensures.after (map_of-clear c.args.slots.now.items c.args.number (omega arith))
