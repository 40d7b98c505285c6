use Rattle.slot_tables.specs.Slots.{map_of}
use Rattle.process_store.specs.Stores.{StoreView}
use Rattle.process_store.specs.Laws.{safe_is}
use Rattle.slot_tables.proofs.SlotLemmas.{used_within}
use Rattle.std.specs.FinMap as maps
use Rattle.retained_rights.proofs.MapLemmas.{some_of}
use Rattle.process_store.proofs.ChangeLemmas.{counted_relabelled, safe_relabelled, state_relabelled, follows_relabelled}
use Rattle.process_store.proofs.processes.Processes.relabel.Goals as goal

pub relabel-requires-clause-fit : goal.relabel-requires-clause-fit
relabel-requires-clause-fit g c =
    let shown : StoreView = record { opening = c.self.inside.opening; processes = map_of c.self.inside.table; rights = c.self.inside.grants } in
    (safe_is (g.A.Asker.decides c.args.asker.now) shown (rw (← c.self.view_is) at c.requires.safe)).rights

pub set-requires : goal.set-requires
set-requires g c =
    let shown : StoreView = record { opening = c.self.inside.opening; processes = map_of c.self.inside.table; rights = c.self.inside.grants } in
    let there = some_of (maps.get shown.processes c.args.pid) (rw (← c.self.view_is) at c.requires.there) in
    used_within c.self.inside.table c.args.pid there.0 there.1

pub invariant_of-self-2 : goal.invariant_of-self-2
invariant_of-self-2 g c =
    let shown : StoreView = record { opening = c.self.inside.opening; processes = map_of c.self.inside.table; rights = c.self.inside.grants } in
    let moved = c.relabel.ensures in
    counted_relabelled shown c.args.pid c.args.process (rw (← c.self.view_is) at c.requires.there) (map_of c.set.new.self) c.relabel.new.self c.set.ensures.map
    moved.rule moved.class c.in_ok-relabel.ensures.claims c.self.invariant.step c.self.inside.kept c.self.invariant.count_is

pub returns-clause-state : goal.returns-clause-state
returns-clause-state g c =
    let shown : StoreView = record { opening = c.self.inside.opening; processes = map_of c.self.inside.table; rights = c.self.inside.grants } in
    let moved = c.relabel.ensures in
    rw (← c.self.view_is) (state_relabelled shown c.args.pid c.args.process (rw (← c.self.view_is) at c.requires.there) (map_of c.set.new.self) c.relabel.new.self c.set.ensures.map
    moved.rule moved.class c.in_ok-relabel.ensures.claims c.self.invariant.step)

pub returns-clause-follows : goal.returns-clause-follows
returns-clause-follows g c =
    let shown : StoreView = record { opening = c.self.inside.opening; processes = map_of c.self.inside.table; rights = c.self.inside.grants } in
    let moved = c.relabel.ensures in
    rw (← c.self.view_is) (follows_relabelled shown c.args.pid c.args.process (rw (← c.self.view_is) at c.requires.there) (map_of c.set.new.self) c.relabel.new.self c.set.ensures.map
    moved.rule moved.class c.in_ok-relabel.ensures.claims c.self.invariant.step c.args.number c.in_ok-relabel.ensures.follows)

pub returns-clause-safe : goal.returns-clause-safe
returns-clause-safe g c =
    let shown : StoreView = record { opening = c.self.inside.opening; processes = map_of c.self.inside.table; rights = c.self.inside.grants } in
    let moved = c.relabel.ensures in
    safe_relabelled shown c.args.pid c.args.process (rw (← c.self.view_is) at c.requires.there) (map_of c.set.new.self) c.relabel.new.self c.set.ensures.map
    moved.rule moved.class c.in_ok-relabel.ensures.claims c.self.invariant.step (g.A.Asker.decides c.args.asker.now)
    c.requires.known (rw (← c.self.view_is) at c.requires.safe) moved.fit
