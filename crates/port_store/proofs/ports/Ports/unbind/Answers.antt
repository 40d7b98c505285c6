use Rattle.slot_tables.specs.Slots.{map_of}
use Rattle.port_store.specs.Stores.{StoreView}
use Rattle.port_store.specs.Laws.{safe_is}
use Rattle.port_store.proofs.StepLemmas.{step_unbound, safe_moved}
use Rattle.port_store.proofs.StateLemmas.{state_unbound, follows_unbound}
use Rattle.port_store.proofs.ports.Ports.unbind.Goals as goal

pub invariant_of-self : goal.invariant_of-self
invariant_of-self g c =
    let shown : StoreView = record { opening = c.self.inside.opening; ports = map_of c.self.inside.table.items; rights = c.self.inside.grants } in
    let drop = c.drop_object.ensures in
    step_unbound shown c.self.invariant c.drop_object.new.self drop.rule drop.class c.args.port (map_of c.take.new.table.items) c.take.ensures drop.claims

pub returns-clause-state : goal.returns-clause-state
returns-clause-state g c =
    let shown : StoreView = record { opening = c.self.inside.opening; ports = map_of c.self.inside.table.items; rights = c.self.inside.grants } in
    rw (← c.self.view_is) (state_unbound shown (map_of c.take.new.table.items) c.drop_object.new.self c.args.port c.take.ensures c.drop_object.ensures.claims)

pub returns-clause-follows : goal.returns-clause-follows
returns-clause-follows g c =
    let shown : StoreView = record { opening = c.self.inside.opening; ports = map_of c.self.inside.table.items; rights = c.self.inside.grants } in
    rw (← c.self.view_is) (follows_unbound shown c.drop_object.new.self c.args.port c.drop_object.ensures.follows)

pub returns-clause-safe : goal.returns-clause-safe
returns-clause-safe g c = λ d kept.
    let shown : StoreView = record { opening = c.self.inside.opening; ports = map_of c.self.inside.table.items; rights = c.self.inside.grants } in
    let drop = c.drop_object.ensures in
    let ports = map_of c.take.new.table.items in
    let safe = rw (← c.self.view_is) at kept in
    safe_moved d shown ports c.drop_object.new.self safe (step_unbound shown c.self.invariant c.drop_object.new.self drop.rule drop.class c.args.port ports c.take.ensures drop.claims)
    (drop.fit d (safe_is d shown safe).rights)
