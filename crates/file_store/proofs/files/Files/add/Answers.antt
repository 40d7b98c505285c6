use Rattle.std.specs.FinMap as maps
use Rattle.file_tree.specs.Nodes.{added, path_in, step_from}
use Rattle.file_tree.specs.PlainTree.{plain}
use Rattle.file_store.specs.Stores.{StoreView}
use Rattle.file_store.proofs.StepLemmas.{step_added, safe_added, state_added}
use Rattle.file_store.proofs.files.Files.add.Goals as goal

pub add-requires-clause-free : goal.add-requires-clause-free
add-requires-clause-free g c = rw (← c.self.view_is) at c.requires.free

pub invariant_of-self-2 : goal.invariant_of-self-2
invariant_of-self-2 g c =
    let shown : StoreView = record { opening = c.self.inside.opening; nodes = c.self.inside.tree; rights = c.self.inside.grants } in
    let child = added shown.nodes c.args.directory c.args.key c.args.name.now c.args.label c.args.bytes in
    step_added shown c.in_ok-_number._number child c.in_ok-_number.ensures.unused c.add.new.self c.in_ok-_number.ensures.ok c.self.invariant c.in_ok-_number.ensures.made

pub returns-clause-state : goal.returns-clause-state
returns-clause-state g c =
    let shown : StoreView = record { opening = c.self.inside.opening; nodes = c.self.inside.tree; rights = c.self.inside.grants } in
    let child = added shown.nodes c.args.directory c.args.key c.args.name.now c.args.label c.args.bytes in
    rw (← c.self.view_is) (state_added shown c.in_ok-_number._number child c.in_ok-_number.ensures.unused c.add.new.self c.in_ok-_number.ensures.ok c.self.invariant
    (maps.insert (plain shown.nodes) (step_from (path_in shown.nodes c.args.directory) c.args.key c.args.name.now) (record { label = c.args.label; bytes = c.args.bytes })) c.in_ok-_number.ensures.plain)

pub returns-clause-safe : goal.returns-clause-safe
returns-clause-safe g c = λ d known kept.
    let shown : StoreView = record { opening = c.self.inside.opening; nodes = c.self.inside.tree; rights = c.self.inside.grants } in
    let child = added shown.nodes c.args.directory c.args.key c.args.name.now c.args.label c.args.bytes in
    safe_added shown c.in_ok-_number._number child c.in_ok-_number.ensures.unused c.add.new.self c.in_ok-_number.ensures.ok c.self.invariant c.in_ok-_number.ensures.made d known (rw (← c.self.view_is) at kept)
