use Rattle.std.specs.FinMap as maps
use Rattle.file_tree.specs.Bytes.{written}
use Rattle.file_tree.specs.Nodes.{bytes_of}
use Rattle.file_tree.specs.PlainTree.{plain, plain_with_bytes}
use Rattle.file_store.specs.Stores.{StoreView}
use Rattle.file_store.proofs.StepLemmas.{step_written, safe_written, state_written}
use Rattle.file_store.proofs.files.Files.write.Goals as goal

pub invariant_of-self-2 : goal.invariant_of-self-2
invariant_of-self-2 g c =
    let shown : StoreView = record { opening = c.self.inside.opening; nodes = c.self.inside.tree; rights = c.self.inside.grants } in
    let bytes = written (bytes_of (maps.get shown.nodes c.args.object)) c.args.offset c.args.piece.now in
    step_written shown c.args.object (rw (← c.self.view_is) at c.requires) bytes c.write.new.self c.in_ok-write.ensures.ok c.self.invariant c.in_ok-write.ensures.made

pub returns-clause-state : goal.returns-clause-state
returns-clause-state g c =
    let shown : StoreView = record { opening = c.self.inside.opening; nodes = c.self.inside.tree; rights = c.self.inside.grants } in
    let bytes = written (bytes_of (maps.get shown.nodes c.args.object)) c.args.offset c.args.piece.now in
    rw (← c.self.view_is) (state_written shown c.args.object (rw (← c.self.view_is) at c.requires) bytes c.write.new.self c.in_ok-write.ensures.ok c.self.invariant (plain_with_bytes (plain shown.nodes) bytes (maps.get shown.nodes c.args.object)) c.in_ok-write.ensures.plain)

pub returns-clause-safe : goal.returns-clause-safe
returns-clause-safe g c = λ d kept.
    let shown : StoreView = record { opening = c.self.inside.opening; nodes = c.self.inside.tree; rights = c.self.inside.grants } in
    let bytes = written (bytes_of (maps.get shown.nodes c.args.object)) c.args.offset c.args.piece.now in
    safe_written shown c.args.object (rw (← c.self.view_is) at c.requires) bytes c.write.new.self c.in_ok-write.ensures.ok c.self.invariant c.in_ok-write.ensures.made d (rw (← c.self.view_is) at kept)
