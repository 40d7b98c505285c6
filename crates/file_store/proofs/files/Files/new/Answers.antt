use Rattle.std.proofs.Common.{◌≡◌, ℕ, ◌<◌, ◌≤◌, ◌∙◌, ap, subst, length, get_or, arith}
use Rattle.file_tree.specs.PlainTree.{plain}
use Rattle.file_store.proofs.LayLemmas.{laying_first, laying_next, laying_may, laying_done}
use Rattle.file_store.proofs.NewLemmas.{step_opened, state_opened, follows_opened, safe_opened}
use Rattle.file_store.proofs.files.Files.new.Goals as goal

pub loop-node-init : goal.loop-node-init
loop-node-init g c =
    (laying_first c.args.opening.root c.args.opening.nodes (plain c.in_ok-tree.tree) c.in_ok-tree.ensures.plain c.requires.nodes.entries, c.in_ok-tree.ensures.made)

pub lay-requires-clause-may : goal.lay-requires-clause-may
lay-requires-clause-may g c =
    let nodes = c.args.opening.nodes in
    let done = c.loop-node.node-index in
    let node = c.node-item.result in
    laying_may (plain c.loop-node.tree) c.args.opening.root nodes done node
    (subst (λ items. done < length items) c.as_slice-node-items.ensures c.loop-node-test.true)
    (c.node-item.is ∙ ap (λ items. get_or items done node) c.as_slice-node-items.ensures) c.loop-node.invariant.0

pub loop-node-preserved : goal.loop-node-preserved
loop-node-preserved g c =
    let nodes = c.args.opening.nodes in
    let done = c.loop-node.node-index in
    let node = c.node-item.result in (
      laying_next (plain c.loop-node.tree) (plain c.lay.new.tree) c.args.opening.root nodes done node
          (subst (λ items. done < length items) c.as_slice-node-items.ensures c.loop-node-test.true)
          (c.node-item.is ∙ ap (λ items. get_or items done node) c.as_slice-node-items.ensures) c.loop-node.invariant.0 c.in_ok-lay.ensures.laid,
      c.in_ok-lay.ensures.made,
    )

-- the count of what is laid is that of all nodes where the loop ends
ended : (done all : ℕ) → done ≤ all → all ≤ done → done ≡ all
ended done all within past = omega (arith, past)

pub invariant_of-result : goal.invariant_of-result
invariant_of-result g c =
    let opening = c.args.opening in
    step_opened opening c.loop-node.tree c.new-2.result c.new-2.ensures c.loop-node.invariant.1

pub returns-clause-state : goal.returns-clause-state
returns-clause-state g c =
    let opening = c.args.opening in
    let stands = laying_done (plain c.loop-node.tree) opening.root opening.nodes c.loop-node.node-index
    (subst (λ nodes. c.loop-node.node-index ≡ length nodes) c.as_slice-node-items.ensures (ended c.loop-node.node-index (length c.as_slice-node-items.result.now) c.loop-node.auto.node-index-end c.loop-node-test.false))
    c.loop-node.invariant.0 in
    state_opened opening c.loop-node.tree c.new-2.result c.new-2.ensures c.loop-node.invariant.1 stands

pub returns-clause-follows : goal.returns-clause-follows
returns-clause-follows g c = follows_opened c.args.opening c.loop-node.tree c.new-2.result c.new-2.ensures

pub returns-clause-safe : goal.returns-clause-safe
returns-clause-safe g c =
    let opening = c.args.opening in
    let stands = laying_done (plain c.loop-node.tree) opening.root opening.nodes c.loop-node.node-index
    (subst (λ nodes. c.loop-node.node-index ≡ length nodes) c.as_slice-node-items.ensures (ended c.loop-node.node-index (length c.as_slice-node-items.result.now) c.loop-node.auto.node-index-end c.loop-node-test.false))
    c.loop-node.invariant.0 in
    safe_opened opening c.loop-node.tree c.new-2.result c.new-2.ensures c.loop-node.invariant.1 stands
