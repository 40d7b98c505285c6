use Rattle.std.proofs.Common.{◌≡◌, ◌∙◌, sym, arith}
use Rattle.std.proofs.lemmas.Grind.{common_steps}
use Rattle.std.specs.FinMap as maps
use Rattle.std.specs.Option.{option_copied}
use Rattle.slot_tables.specs.Slots.{map_of}
use Rattle.slot_tables.proofs.SlotLemmas.{get-map_of}
use Rattle.file_tree.proofs.PlainLemmas.{once_of}
use Rattle.file_tree.proofs.BelowLemmas.{node-plain}
use Rattle.file_tree.proofs.tree.Tree.node.Goals as goal

pub returns-in_err-get-clause-node : goal.returns-in_err-get-clause-node
returns-in_err-get-clause-node c = rw (← c.self.view_is) ((grind (arith, common_steps)) ∙ sym (get-map_of c.self.inside.slots.items c.args.number))

pub returns-clause-node : goal.returns-clause-node
returns-clause-node c = rw (← c.self.view_is) ((grind (arith, common_steps)) ∙ sym (get-map_of c.self.inside.slots.items c.args.number))

pub returns-clause-plain : goal.returns-clause-plain
returns-clause-plain c =
    let nodes = map_of c.self.inside.slots.items in
    let found : option_copied c.as_ref.result ≡ maps.get nodes c.args.number = (grind (arith, common_steps)) ∙ sym (get-map_of c.self.inside.slots.items c.args.number) in
    rw (← c.self.view_is) (node-plain nodes (once_of nodes c.self.inside.entries c.self.invariant.0) c.args.number c.as_ref.result found)
