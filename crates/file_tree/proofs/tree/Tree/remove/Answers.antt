use Rattle.std.proofs.Common.{◌≡◌, ◌<◌, ◌∙◌, sym, ap, arith, subst, None, [], ◌∷◌, ◌++◌, ◌-◌, length}
use Rattle.std.specs.Prelude.{slice_get}
use Rattle.std.specs.FinMap as maps
use Rattle.slot_tables.specs.Slots.{map_of}
use Rattle.file_tree.specs.Shelves.{changed_at}
use Rattle.file_tree.specs.Nodes.{IsTree, IsPlaced, HasNoEntry, path_of, step_from}
use Rattle.file_tree.proofs.Paths.{same_some, last-got}
use Rattle.file_tree.proofs.TreeLemmas.{removed_tree, len_less, some_len, nothing_out}
use Rattle.file_tree.specs.PlainTree.{plain, plain_without}
use Rattle.file_tree.proofs.PlainLemmas.{plain_removed, once_of, well_made}
use Rattle.file_tree.proofs.tree.Tree.remove.Goals as goal

pub invariant_of-self : goal.invariant_of-self
invariant_of-self c =
    let nodes = map_of c.self.inside.slots.items in (
      subst (λ m. IsTree m c.self.inside.entries) (sym (c.take_node.ensures.map ∙ nothing_out nodes c.args.number (sym c.in_default.ensures.node))) c.self.invariant.0,
      omega (arith, c.take_node.ensures.len, c.self.invariant.1),
      c.self.invariant.2 ∙ sym (ap maps.len (c.take_node.ensures.map ∙ nothing_out nodes c.args.number (sym c.in_default.ensures.node))),
    )

pub invariant_of-self-2 : goal.invariant_of-self-2
invariant_of-self-2 c =
    let nodes = map_of c.self.inside.slots.items in
    let node = c.in-Some.node in
    let step = c.in-Some-last.step.now in
    let held = sym c.in-Some.ensures.node in
    let was : IsPlaced nodes c.self.inside.entries c.args.number node = c.self.invariant.0.placed c.args.number node held c.requires.not_root in
    let last : was.step ≡ step = same_some was.step step (sym (last-got was.above.path was.step) ∙ ap (λ path. slice_get path (length path - 1)) (sym was.path ∙ sym c.as_slice.ensures) ∙ sym c.in-Some-last.ensures.value) in
    let at : node.path ≡ step_from was.above.path step.key step.name = was.path ∙ ap (λ s. was.above.path ++ s ∷ []) last in (
      subst (λ m. IsTree m c.remove.new.self) (sym c.take_node.ensures.map) (removed_tree nodes c.self.inside.entries c.self.invariant.0 c.remove.new.self c.args.number node held c.requires.not_root
          (subst (HasNoEntry nodes) (ap path_of held) (rw (← c.self.view_is) at c.requires.empty)) step.key step.name was.above.path at
          (λ p q. c.remove.ensures p q ∙ (λ i. changed_at c.self.inside.entries (c.place_of.ensures i) (c.as_bytes.ensures i) None p q))),
      omega (arith, c.take_node.ensures.len, c.self.invariant.1),
      ap (λ n. n - 1) c.self.invariant.2 ∙ sym (ap maps.len c.take_node.ensures.map ∙ len_less nodes c.args.number node held),
    )

pub returns-in_default-clause-plain : goal.returns-in_default-clause-plain
returns-in_default-clause-plain c =
    let nodes = map_of c.self.inside.slots.items in
    let none = sym c.in_default.ensures.node in
    rw (← c.self.view_is) (ap plain (c.take_node.ensures.map ∙ nothing_out nodes c.args.number none) ∙ sym (ap (plain_without (plain nodes)) none))

pub returns-in_default-last-clause-plain : goal.returns-in_default-last-clause-plain
returns-in_default-last-clause-plain c =
    let nodes = map_of c.self.inside.slots.items in
    let held = sym c.in-Some.ensures.node in
    rw (← c.self.view_is) (ap plain c.take_node.ensures.map ∙ plain_removed nodes c.args.number c.in-Some.node (once_of nodes c.self.inside.entries c.self.invariant.0) held ∙ sym (ap (plain_without (plain nodes)) held))

pub returns-clause-plain : goal.returns-clause-plain
returns-clause-plain c =
    let nodes = map_of c.self.inside.slots.items in
    let held = sym c.in-Some.ensures.node in
    rw (← c.self.view_is) (ap plain c.take_node.ensures.map ∙ plain_removed nodes c.args.number c.in-Some.node (once_of nodes c.self.inside.entries c.self.invariant.0) held ∙ sym (ap (plain_without (plain nodes)) held))

pub overflow_sub-self : goal.overflow_sub-self
overflow_sub-self c =
    let some : 0 < maps.len (map_of c.self.inside.slots.items) = some_len (map_of c.self.inside.slots.items) c.args.number c.in-Some.node (sym c.in-Some.ensures.node) in
    let used : c.self.inside.used ≡ maps.len (map_of c.self.inside.slots.items) = c.self.invariant.2 in
    omega (arith, some, used)

pub returns-in_default-clause-made : goal.returns-in_default-clause-made
returns-in_default-clause-made c =
    let nodes = map_of c.self.inside.slots.items in
    well_made _ c.self.inside.entries
    (subst (λ m. IsTree m c.self.inside.entries) (sym (c.take_node.ensures.map ∙ nothing_out nodes c.args.number (sym c.in_default.ensures.node))) c.self.invariant.0)

pub returns-clause-made : goal.returns-clause-made
returns-clause-made c =
    let nodes = map_of c.self.inside.slots.items in
    let node = c.in-Some.node in
    let step = c.in-Some-last.step.now in
    let held = sym c.in-Some.ensures.node in
    let was : IsPlaced nodes c.self.inside.entries c.args.number node = c.self.invariant.0.placed c.args.number node held c.requires.not_root in
    let last : was.step ≡ step = same_some was.step step (sym (last-got was.above.path was.step) ∙ ap (λ path. slice_get path (length path - 1)) (sym was.path ∙ sym c.as_slice.ensures) ∙ sym c.in-Some-last.ensures.value) in
    let at : node.path ≡ step_from was.above.path step.key step.name = was.path ∙ ap (λ s. was.above.path ++ s ∷ []) last in
    well_made _ c.remove.new.self (subst (λ m. IsTree m c.remove.new.self) (sym c.take_node.ensures.map) (removed_tree nodes c.self.inside.entries c.self.invariant.0 c.remove.new.self c.args.number node held c.requires.not_root
    (subst (HasNoEntry nodes) (ap path_of held) (rw (← c.self.view_is) at c.requires.empty)) step.key step.name was.above.path at
    (λ p q. c.remove.ensures p q ∙ (λ i. changed_at c.self.inside.entries (c.place_of.ensures i) (c.as_bytes.ensures i) None p q))))
