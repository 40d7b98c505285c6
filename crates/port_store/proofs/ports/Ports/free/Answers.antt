use Rattle.access_vectors.specs.Stale.{slot_place}
use Rattle.slot_tables.specs.Slots.{map_of}
use Rattle.retained_rights.proofs.StepLemmas.{step_freed}
use Rattle.port_store.specs.Stores.{StoreView}
use Rattle.port_store.specs.Laws.{safe_is}
use Rattle.port_store.proofs.StepLemmas.{safe_moved}
use Rattle.port_store.proofs.StateLemmas.{state_freed}
use Rattle.port_store.proofs.ports.Ports.free.Goals as goal

pub invariant_of-self : goal.invariant_of-self
invariant_of-self g c =
    let drop = c.drop_slot-held.ensures in
    step_freed c.self.invariant c.drop_slot-held.new.self drop.rule drop.class (slot_place c.args.client c.args.slot) drop.claims

pub returns-clause-state : goal.returns-clause-state
returns-clause-state g c =
    let shown : StoreView = record { opening = c.self.inside.opening; ports = map_of c.self.inside.table.items; rights = c.self.inside.grants } in
    rw (← c.self.view_is) (state_freed shown c.drop_slot-held.new.self (slot_place c.args.client c.args.slot) c.drop_slot-held.ensures.claims)

pub returns-clause-safe : goal.returns-clause-safe
returns-clause-safe g c = λ d kept.
    let shown : StoreView = record { opening = c.self.inside.opening; ports = map_of c.self.inside.table.items; rights = c.self.inside.grants } in
    let drop = c.drop_slot-held.ensures in
    let safe = rw (← c.self.view_is) at kept in
    safe_moved d shown shown.ports c.drop_slot-held.new.self safe (step_freed c.self.invariant c.drop_slot-held.new.self drop.rule drop.class (slot_place c.args.client c.args.slot) drop.claims)
    (drop.fit d (safe_is d shown safe).rights)
