use Rattle.slot_tables.specs.Slots.{map_of}
use Rattle.process_store.specs.Stores.{StoreView}
use Rattle.process_store.proofs.ChangeLemmas.{some_kept, counted_left, safe_left, state_left, follows_left}
use Rattle.process_store.proofs.processes.Processes.remove.Goals as goal

pub overflow_sub-self : goal.overflow_sub-self
overflow_sub-self g c =
    let shown : StoreView = record { opening = c.self.inside.opening; processes = map_of c.self.inside.table; rights = c.self.inside.grants } in
    some_kept shown.processes c.args.pid (rw (← c.self.view_is) at c.requires.there) c.self.inside.kept c.self.invariant.count_is

pub invariant_of-self : goal.invariant_of-self
invariant_of-self g c =
    let shown : StoreView = record { opening = c.self.inside.opening; processes = map_of c.self.inside.table; rights = c.self.inside.grants } in
    let drop = c.drop_object.ensures in
    counted_left shown c.args.pid (rw (← c.self.view_is) at c.requires.there) (map_of c.clear.new.self) c.drop_object.new.self c.clear.ensures.map drop.rule drop.class drop.claims c.self.invariant.step c.self.inside.kept c.self.invariant.count_is

pub returns-clause-state : goal.returns-clause-state
returns-clause-state g c =
    let shown : StoreView = record { opening = c.self.inside.opening; processes = map_of c.self.inside.table; rights = c.self.inside.grants } in
    let drop = c.drop_object.ensures in
    rw (← c.self.view_is) (state_left shown c.args.pid (rw (← c.self.view_is) at c.requires.there) (map_of c.clear.new.self) c.drop_object.new.self c.clear.ensures.map drop.rule drop.class drop.claims c.self.invariant.step)

pub returns-clause-follows : goal.returns-clause-follows
returns-clause-follows g c =
    let shown : StoreView = record { opening = c.self.inside.opening; processes = map_of c.self.inside.table; rights = c.self.inside.grants } in
    let drop = c.drop_object.ensures in
    rw (← c.self.view_is) (follows_left shown c.args.pid (rw (← c.self.view_is) at c.requires.there) (map_of c.clear.new.self) c.drop_object.new.self c.clear.ensures.map drop.rule drop.class drop.claims c.self.invariant.step drop.follows)

pub returns-clause-safe : goal.returns-clause-safe
returns-clause-safe g c = λ d kept.
    let shown : StoreView = record { opening = c.self.inside.opening; processes = map_of c.self.inside.table; rights = c.self.inside.grants } in
    let drop = c.drop_object.ensures in
    safe_left shown c.args.pid (rw (← c.self.view_is) at c.requires.there) (map_of c.clear.new.self) c.drop_object.new.self c.clear.ensures.map drop.rule drop.class drop.claims c.self.invariant.step d (rw (← c.self.view_is) at kept) (drop.fit d)
