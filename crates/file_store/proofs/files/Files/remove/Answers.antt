use Rattle.file_store.specs.Stores.{StoreView}
use Rattle.file_store.proofs.ChangeLemmas.{no_entry_in}
use Rattle.file_store.proofs.StepLemmas.{step_taken, safe_taken, state_taken, follows_taken}
use Rattle.file_store.proofs.files.Files.remove.Goals as goal

pub remove-requires-clause-empty : goal.remove-requires-clause-empty
remove-requires-clause-empty g c =
    let tree = c.self.invariant.tree in
    no_entry_in c.self.inside.tree tree.root_path tree.parents tree.once c.args.object (rw (← c.self.view_is) at c.requires.there) (rw (← c.self.view_is) at c.requires.empty)

pub invariant_of-self : goal.invariant_of-self
invariant_of-self g c =
    let shown : StoreView = record { opening = c.self.inside.opening; nodes = c.self.inside.tree; rights = c.self.inside.grants } in
    let drop = c.drop_object.ensures in
    step_taken shown c.args.object (rw (← c.self.view_is) at c.requires.there) c.remove.new.self c.drop_object.new.self c.remove.ensures.nodes drop.rule drop.class drop.claims c.self.invariant c.remove.ensures.made

pub returns-clause-state : goal.returns-clause-state
returns-clause-state g c =
    let shown : StoreView = record { opening = c.self.inside.opening; nodes = c.self.inside.tree; rights = c.self.inside.grants } in
    let drop = c.drop_object.ensures in
    rw (← c.self.view_is) (state_taken shown c.args.object (rw (← c.self.view_is) at c.requires.there) c.remove.new.self c.drop_object.new.self c.remove.ensures.nodes drop.rule drop.class drop.claims c.self.invariant
    c.remove.ensures.plain)

pub returns-clause-follows : goal.returns-clause-follows
returns-clause-follows g c =
    let shown : StoreView = record { opening = c.self.inside.opening; nodes = c.self.inside.tree; rights = c.self.inside.grants } in
    let drop = c.drop_object.ensures in
    rw (← c.self.view_is) (follows_taken shown c.args.object (rw (← c.self.view_is) at c.requires.there) c.remove.new.self c.drop_object.new.self c.remove.ensures.nodes drop.rule drop.class drop.claims c.self.invariant drop.follows)

pub returns-clause-safe : goal.returns-clause-safe
returns-clause-safe g c = λ d kept.
    let shown : StoreView = record { opening = c.self.inside.opening; nodes = c.self.inside.tree; rights = c.self.inside.grants } in
    let drop = c.drop_object.ensures in
    safe_taken shown c.args.object (rw (← c.self.view_is) at c.requires.there) c.remove.new.self c.drop_object.new.self c.remove.ensures.nodes drop.rule drop.class drop.claims c.self.invariant c.remove.ensures.made d
    (rw (← c.self.view_is) at kept) (drop.fit d)
