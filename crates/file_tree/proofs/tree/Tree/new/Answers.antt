use Rattle.std.proofs.Common.{◌+◌, ◌∙◌, sym, ap, refl, arith, length, subst, Some, None, [], ◌∷◌, ◌++◌}
use Rattle.std.specs.Ordering.{nat_cmp}
use Rattle.std.specs.FinMap as maps
use Rattle.slot_tables.specs.Slots.{map_of}
use Rattle.file_tree.specs.declared.node.Node.{Node}
use Rattle.file_tree.specs.Nodes.{IsTree}
use Rattle.file_tree.proofs.TreeLemmas.{root_tree, root_slots, len_more}
use Rattle.file_tree.specs.PlainTree.{plain}
use Rattle.file_tree.proofs.PlainLemmas.{plain_root, once_of, well_made}
use Rattle.file_tree.proofs.tree.Tree.new.Goals as goal

pub invariant_of-result : goal.invariant_of-result
invariant_of-result c =
    let root : Node = record { parent = 0; path = c.new.result; label = c.args.label; bytes = None } in
    let items = c.in_ok-push.ensures.items ∙ ap (λ slots. slots ++ Some root ∷ []) c.new-slots.ensures.items in (
      subst (λ slots. IsTree (map_of slots) c.new-3.result) (sym items) (subst (IsTree (map_of (Some root ∷ []))) (sym c.new-3.ensures)
          (subst (λ nodes. IsTree nodes maps.empty) (sym (root_slots root)) (root_tree root c.new.ensures refl))),
      omega (arith, ap length items),
      sym (ap maps.len (ap map_of items ∙ root_slots root) ∙ len_more maps.empty 0 root (maps.get-empty nat_cmp 0) ∙ ap (λ n. n + 1) (maps.len-empty nat_cmp Node)),
    )

pub returns-clause-nodes : goal.returns-clause-nodes
returns-clause-nodes c =
    let root : Node = record { parent = 0; path = c.new.result; label = c.args.label; bytes = None } in
    ap map_of (c.in_ok-push.ensures.items ∙ ap (λ slots. slots ++ Some root ∷ []) c.new-slots.ensures.items) ∙ root_slots root
    ∙ (λ i. maps.insert maps.empty 0 (record { parent = 0; path = c.new.ensures i; label = c.args.label; bytes = None }))

pub returns-clause-plain : goal.returns-clause-plain
returns-clause-plain c =
    let root : Node = record { parent = 0; path = c.new.result; label = c.args.label; bytes = None } in
    ap plain (ap map_of (c.in_ok-push.ensures.items ∙ ap (λ slots. slots ++ Some root ∷ []) c.new-slots.ensures.items) ∙ root_slots root)
    ∙ plain_root root (once_of _ maps.empty (root_tree root c.new.ensures refl)) ∙ (λ i. maps.insert maps.empty (c.new.ensures i) (record { label = c.args.label; bytes = None }))

pub returns-clause-made : goal.returns-clause-made
returns-clause-made c =
    let root : Node = record { parent = 0; path = c.new.result; label = c.args.label; bytes = None } in
    let items = c.in_ok-push.ensures.items ∙ ap (λ slots. slots ++ Some root ∷ []) c.new-slots.ensures.items in
    well_made _ c.new-3.result (subst (λ slots. IsTree (map_of slots) c.new-3.result) (sym items) (subst (IsTree (map_of (Some root ∷ []))) (sym c.new-3.ensures)
    (subst (λ nodes. IsTree nodes maps.empty) (sym (root_slots root)) (root_tree root c.new.ensures refl))))
