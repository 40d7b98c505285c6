use Rattle.std.specs.FinMap as maps
use Rattle.file_tree.specs.PlainTree.{plain, plain_relabelled}
use Rattle.file_store.specs.Stores.{StoreView}
use Rattle.file_store.specs.Laws.{safe_is}
use Rattle.file_store.proofs.StepLemmas.{step_relabelled, safe_relabelled, state_relabelled, follows_relabelled}
use Rattle.file_store.proofs.files.Files.relabel.Goals as goal

pub relabel-requires-clause-fit : goal.relabel-requires-clause-fit
relabel-requires-clause-fit g c =
    let shown : StoreView = record { opening = c.self.inside.opening; nodes = c.self.inside.tree; rights = c.self.inside.grants } in
    (safe_is (g.A.Asker.decides c.args.asker.now) shown (rw (← c.self.view_is) at c.requires.safe)).rights

pub invariant_of-self-2 : goal.invariant_of-self-2
invariant_of-self-2 g c =
    let shown : StoreView = record { opening = c.self.inside.opening; nodes = c.self.inside.tree; rights = c.self.inside.grants } in
    let moved = c.relabel.ensures in
    step_relabelled shown c.args.object (rw (← c.self.view_is) at c.requires.there) c.args.label c.set_label.new.self c.relabel.new.self c.set_label.ensures.nodes moved.rule moved.class c.in_ok-relabel.ensures.claims c.self.invariant c.set_label.ensures.made

pub returns-clause-state : goal.returns-clause-state
returns-clause-state g c =
    let shown : StoreView = record { opening = c.self.inside.opening; nodes = c.self.inside.tree; rights = c.self.inside.grants } in
    let moved = c.relabel.ensures in
    rw (← c.self.view_is) (state_relabelled shown c.args.object (rw (← c.self.view_is) at c.requires.there) c.args.label c.set_label.new.self c.relabel.new.self c.set_label.ensures.nodes moved.rule moved.class c.in_ok-relabel.ensures.claims c.self.invariant
    (plain_relabelled (plain shown.nodes) c.args.label (maps.get shown.nodes c.args.object)) c.set_label.ensures.plain)

pub returns-clause-follows : goal.returns-clause-follows
returns-clause-follows g c =
    let shown : StoreView = record { opening = c.self.inside.opening; nodes = c.self.inside.tree; rights = c.self.inside.grants } in
    let moved = c.relabel.ensures in
    rw (← c.self.view_is) (follows_relabelled shown c.args.object (rw (← c.self.view_is) at c.requires.there) c.args.label c.set_label.new.self c.relabel.new.self c.set_label.ensures.nodes moved.rule moved.class c.in_ok-relabel.ensures.claims c.self.invariant c.args.number c.in_ok-relabel.ensures.follows)

pub returns-clause-safe : goal.returns-clause-safe
returns-clause-safe g c =
    let shown : StoreView = record { opening = c.self.inside.opening; nodes = c.self.inside.tree; rights = c.self.inside.grants } in
    let moved = c.relabel.ensures in
    safe_relabelled shown c.args.object (rw (← c.self.view_is) at c.requires.there) c.args.label c.set_label.new.self c.relabel.new.self c.set_label.ensures.nodes moved.rule moved.class c.in_ok-relabel.ensures.claims c.self.invariant c.set_label.ensures.made (g.A.Asker.decides c.args.asker.now) c.requires.known (rw (← c.self.view_is) at c.requires.safe) moved.fit
