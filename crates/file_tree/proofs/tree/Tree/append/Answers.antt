use Rattle.std.proofs.Common.{◌∙◌, ◌++◌, sym, ap, arith, subst}
use Rattle.std.specs.FinMap as maps
use Rattle.std.proofs.lemmas.Result.{on_ok_weaker}
use Rattle.slot_tables.specs.Slots.{map_of}
use Rattle.file_tree.specs.Nodes.{IsTree, bytes_of}
use Rattle.file_tree.specs.PlainTree.{plain}
use Rattle.file_tree.proofs.FileLemmas.{len_after, plain_of_bytes, tree_after, tree_with_bytes}
use Rattle.file_tree.proofs.PlainLemmas.{well_made}
use Rattle.file_tree.proofs.tree.Tree.append.Goals as goal

pub invariant_of-self : goal.invariant_of-self
invariant_of-self c =
    let nodes = map_of c.self.inside.slots.items in
    let now = map_of c.extend_node.new.slots.items in
    let bytes = bytes_of (maps.get nodes c.args.number) ++ c.args.piece.now in
    let file = rw (← c.self.view_is) at c.requires in
    let tree = c.self.invariant.0 in
    let told = c.extend_node.ensures in (
      tree_after nodes c.self.inside.entries tree c.args.number bytes file c.extend_node.result now told.ok told.err,
      omega (arith, told.len, c.self.invariant.1),
      c.self.invariant.2 ∙ sym (len_after nodes c.self.inside.entries tree c.args.number bytes file c.extend_node.result now told.ok told.err),
    )

pub returns-clause-plain : goal.returns-clause-plain
returns-clause-plain c =
    let nodes = map_of c.self.inside.slots.items in
    let bytes = bytes_of (maps.get nodes c.args.number) ++ c.args.piece.now in
    let file = rw (← c.self.view_is) at c.requires in
    rw (← c.self.view_is) (on_ok_weaker c.extend_node.result (λ changed. ap plain changed ∙ plain_of_bytes nodes c.self.inside.entries c.self.invariant.0 c.args.number bytes file) c.extend_node.ensures.ok)

pub returns-clause-made : goal.returns-clause-made
returns-clause-made c =
    let nodes = map_of c.self.inside.slots.items in
    let bytes = bytes_of (maps.get nodes c.args.number) ++ c.args.piece.now in
    let file = rw (← c.self.view_is) at c.requires in
    on_ok_weaker c.extend_node.result (λ changed. well_made _ c.self.inside.entries (subst (λ m. IsTree m c.self.inside.entries) (sym changed)
    (tree_with_bytes nodes c.self.inside.entries c.self.invariant.0 c.args.number bytes file))) c.extend_node.ensures.ok
