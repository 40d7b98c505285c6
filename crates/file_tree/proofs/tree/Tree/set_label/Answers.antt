use Rattle.std.proofs.Common.{◌∙◌, sym, ap, refl, arith, subst}
use Rattle.std.specs.FinMap as maps
use Rattle.slot_tables.specs.Slots.{map_of}
use Rattle.file_tree.specs.Nodes.{IsTree, in_place}
use Rattle.file_tree.proofs.TreeLemmas.{kept_tree, len_same, nothing_out, put_back}
use Rattle.file_tree.specs.declared.node.Node.{Node}
use Rattle.file_tree.specs.PlainTree.{plain, plain_relabelled}
use Rattle.file_tree.proofs.PlainLemmas.{plain_kept, once_of, well_made}
use Rattle.file_tree.proofs.tree.Tree.set_label.Goals as goal

pub invariant_of-self : goal.invariant_of-self
invariant_of-self c =
    let nodes = map_of c.self.inside.slots.items in (
      subst (λ m. IsTree m c.self.inside.entries) (sym (c.take_node.ensures.map ∙ nothing_out nodes c.args.number (sym c.in_default.ensures.node))) c.self.invariant.0,
      omega (arith, c.take_node.ensures.len, c.self.invariant.1),
      c.self.invariant.2 ∙ sym (ap maps.len (c.take_node.ensures.map ∙ nothing_out nodes c.args.number (sym c.in_default.ensures.node))),
    )

pub returns-in_default-clause-nodes : goal.returns-in_default-clause-nodes
returns-in_default-clause-nodes c =
    let nodes = map_of c.self.inside.slots.items in
    let none = sym c.in_default.ensures.node in
    rw (← c.self.view_is) (c.take_node.ensures.map ∙ nothing_out nodes c.args.number none
    ∙ sym (ap (in_place nodes c.args.number (λ node. record { parent = node.parent; path = node.path; label = c.args.label; bytes = node.bytes })) none))

pub invariant_of-self-2 : goal.invariant_of-self-2
invariant_of-self-2 c =
    let nodes = map_of c.self.inside.slots.items in
    let node = c.in-Some.node in (
      subst (λ m. IsTree m c.self.inside.entries) (sym (c.put_node.ensures.map ∙ ap (λ m. maps.insert m c.args.number (record { parent = c.in-Some.node.parent; path = c.in-Some.node.path; label = c.args.label; bytes = c.in-Some.node.bytes })) c.take_node.ensures.map ∙ put_back nodes c.args.number (record { parent = c.in-Some.node.parent; path = c.in-Some.node.path; label = c.args.label; bytes = c.in-Some.node.bytes })))
          (kept_tree nodes c.self.inside.entries c.self.invariant.0 c.args.number node (record { parent = node.parent; path = node.path; label = c.args.label; bytes = node.bytes }) (sym c.in-Some.ensures.node) refl refl (λ none. none)),
      omega (arith, c.take_node.ensures.len, c.put_node.ensures.len, c.self.invariant.1),
      c.self.invariant.2 ∙ sym (ap maps.len (c.put_node.ensures.map ∙ ap (λ m. maps.insert m c.args.number (record { parent = node.parent; path = node.path; label = c.args.label; bytes = node.bytes })) c.take_node.ensures.map ∙ put_back nodes c.args.number (record { parent = node.parent; path = node.path; label = c.args.label; bytes = node.bytes }))
          ∙ len_same nodes c.args.number node (record { parent = node.parent; path = node.path; label = c.args.label; bytes = node.bytes }) (sym c.in-Some.ensures.node)),
    )

pub returns-clause-nodes : goal.returns-clause-nodes
returns-clause-nodes c =
    let nodes = map_of c.self.inside.slots.items in
    rw (← c.self.view_is) (c.put_node.ensures.map ∙ ap (λ m. maps.insert m c.args.number (record { parent = c.in-Some.node.parent; path = c.in-Some.node.path; label = c.args.label; bytes = c.in-Some.node.bytes })) c.take_node.ensures.map ∙ put_back nodes c.args.number _
    ∙ sym (ap (in_place nodes c.args.number (λ node. record { parent = node.parent; path = node.path; label = c.args.label; bytes = node.bytes })) (sym c.in-Some.ensures.node)))

pub returns-in_default-clause-plain : goal.returns-in_default-clause-plain
returns-in_default-clause-plain c =
    let nodes = map_of c.self.inside.slots.items in
    let none = sym c.in_default.ensures.node in
    rw (← c.self.view_is) (ap plain (c.take_node.ensures.map ∙ nothing_out nodes c.args.number none) ∙ sym (ap (plain_relabelled (plain nodes) c.args.label) none))

pub returns-clause-plain : goal.returns-clause-plain
returns-clause-plain c =
    let nodes = map_of c.self.inside.slots.items in
    let node = c.in-Some.node in
    let other : Node = record { parent = node.parent; path = node.path; label = c.args.label; bytes = node.bytes } in
    let held = sym c.in-Some.ensures.node in
    let kept = kept_tree nodes c.self.inside.entries c.self.invariant.0 c.args.number node other held refl refl (λ none. none) in
    rw (← c.self.view_is) (ap plain (c.put_node.ensures.map ∙ ap (λ m. maps.insert m c.args.number other) c.take_node.ensures.map ∙ put_back nodes c.args.number other)
    ∙ plain_kept nodes c.args.number node other (once_of nodes c.self.inside.entries c.self.invariant.0) (once_of _ c.self.inside.entries kept) held refl ∙ sym (ap (plain_relabelled (plain nodes) c.args.label) held))

pub returns-in_default-clause-made : goal.returns-in_default-clause-made
returns-in_default-clause-made c =
    let nodes = map_of c.self.inside.slots.items in
    well_made _ c.self.inside.entries
    (subst (λ m. IsTree m c.self.inside.entries) (sym (c.take_node.ensures.map ∙ nothing_out nodes c.args.number (sym c.in_default.ensures.node))) c.self.invariant.0)

pub returns-clause-made : goal.returns-clause-made
returns-clause-made c =
    let nodes = map_of c.self.inside.slots.items in
    let other : Node = record { parent = c.in-Some.node.parent; path = c.in-Some.node.path; label = c.args.label; bytes = c.in-Some.node.bytes } in
    let kept = kept_tree nodes c.self.inside.entries c.self.invariant.0 c.args.number c.in-Some.node other (sym c.in-Some.ensures.node) refl refl (λ none. none) in
    well_made _ c.self.inside.entries
    (subst (λ m. IsTree m c.self.inside.entries) (sym (c.put_node.ensures.map ∙ ap (λ m. maps.insert m c.args.number other) c.take_node.ensures.map ∙ put_back nodes c.args.number other)) kept)
