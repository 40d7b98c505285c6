use Rattle.std.proofs.Common.{◌≡◌, ◌≤◌, ◌^◌, length, ◌+◌, ◌∙◌, sym, ap, arith, subst, Some}
use Rattle.std.specs.FinMap as maps
use Rattle.slot_tables.specs.Slots.{map_of}
use Rattle.file_tree.specs.Shelves.{changed_at}
use Rattle.file_tree.specs.Nodes.{IsTree, added}
use Rattle.file_tree.specs.PlainTree.{plain}
use Rattle.file_tree.proofs.PlainLemmas.{plain_added, once_of, well_made}
use Rattle.file_tree.proofs.TreeLemmas.{added_tree, len_more, len_within}
use Rattle.file_tree.proofs.tree.Tree.add.Goals as goal

pub invariant_of-self-2 : goal.invariant_of-self-2
invariant_of-self-2 c =
    let nodes = map_of c.self.inside.slots.items in
    let path = rw (← c.self.view_is) at c.in_ok-path.ensures in
    let grown = added_tree nodes c.self.inside.entries c.self.invariant.0 c.add.new.self c.args.directory c.args.key c.args.name.now c.args.label c.args.bytes c.in_ok-number.number
    (rw (← c.self.view_is) at c.requires.directory) (omega arith) (rw (← c.self.view_is) at c.requires.free) c.in_ok-number.ensures.unused
    (λ p q. c.in-Ok.ensures.ok p q ∙ (λ i. changed_at c.self.inside.entries (c.place_of.ensures i) (c.in_ok-kept.ensures.items i) (Some c.in_ok-number.number) p q)) in (
      subst (λ m. IsTree m c.add.new.self) (sym (c.put_node.ensures.map
          ∙ (λ i. maps.insert (c.in_ok-number.ensures.map i) c.in_ok-number.number (record { parent = c.args.directory; path = path i; label = c.args.label; bytes = c.args.bytes })))) grown,
      omega (arith, c.put_node.ensures.len, c.in_ok-number.ensures.small),
      ap (λ n. n + 1) c.self.invariant.2 ∙ sym (ap maps.len (c.put_node.ensures.map
          ∙ (λ i. maps.insert (c.in_ok-number.ensures.map i) c.in_ok-number.number (record { parent = c.args.directory; path = path i; label = c.args.label; bytes = c.args.bytes })))
          ∙ len_more nodes c.in_ok-number.number (added nodes c.args.directory c.args.key c.args.name.now c.args.label c.args.bytes) c.in_ok-number.ensures.unused),
    )

pub returns-clause-plain : goal.returns-clause-plain
returns-clause-plain c =
    let nodes = map_of c.self.inside.slots.items in
    let path = rw (← c.self.view_is) at c.in_ok-path.ensures in
    let child = added nodes c.args.directory c.args.key c.args.name.now c.args.label c.args.bytes in
    let free = rw (← c.self.view_is) at c.requires.free in
    let grown = added_tree nodes c.self.inside.entries c.self.invariant.0 c.add.new.self c.args.directory c.args.key c.args.name.now c.args.label c.args.bytes c.in_ok-number.number
    (rw (← c.self.view_is) at c.requires.directory) (omega arith) free c.in_ok-number.ensures.unused
    (λ p q. c.in-Ok.ensures.ok p q ∙ (λ i. changed_at c.self.inside.entries (c.place_of.ensures i) (c.in_ok-kept.ensures.items i) (Some c.in_ok-number.number) p q)) in
    rw (← c.self.view_is) (ap plain (c.put_node.ensures.map
    ∙ (λ i. maps.insert (c.in_ok-number.ensures.map i) c.in_ok-number.number (record { parent = c.args.directory; path = path i; label = c.args.label; bytes = c.args.bytes })))
    ∙ plain_added nodes c.in_ok-number.number child (once_of nodes c.self.inside.entries c.self.invariant.0) (once_of _ c.add.new.self grown) c.in_ok-number.ensures.unused free)

pub overflow_add-self : goal.overflow_add-self
overflow_add-self c =
    let within : maps.len (map_of c.self.inside.slots.items) ≤ length c.self.inside.slots.items = len_within c.self.inside.slots.items in
    let used : c.self.inside.used ≡ maps.len (map_of c.self.inside.slots.items) = c.self.invariant.2 in
    let small : length c.self.inside.slots.items ≤ 2 ^ 32 = c.self.invariant.1 in
    omega (arith, within, used, small)

pub returns-clause-made : goal.returns-clause-made
returns-clause-made c =
    let nodes = map_of c.self.inside.slots.items in
    let path = rw (← c.self.view_is) at c.in_ok-path.ensures in
    let grown = added_tree nodes c.self.inside.entries c.self.invariant.0 c.add.new.self c.args.directory c.args.key c.args.name.now c.args.label c.args.bytes c.in_ok-number.number
    (rw (← c.self.view_is) at c.requires.directory) (omega arith) (rw (← c.self.view_is) at c.requires.free) c.in_ok-number.ensures.unused
    (λ p q. c.in-Ok.ensures.ok p q ∙ (λ i. changed_at c.self.inside.entries (c.place_of.ensures i) (c.in_ok-kept.ensures.items i) (Some c.in_ok-number.number) p q)) in
    well_made _ c.add.new.self (subst (λ m. IsTree m c.add.new.self) (sym (c.put_node.ensures.map
    ∙ (λ i. maps.insert (c.in_ok-number.ensures.map i) c.in_ok-number.number (record { parent = c.args.directory; path = path i; label = c.args.label; bytes = c.args.bytes })))) grown)
