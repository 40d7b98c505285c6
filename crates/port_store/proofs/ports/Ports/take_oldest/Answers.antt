use Rattle.slot_tables.specs.Slots.{map_of}
use Rattle.port_store.specs.Stores.{StoreView}
use Rattle.port_store.specs.Laws.{safe_is}
use Rattle.port_store.specs.Queues.{without_oldest}
use Rattle.port_store.proofs.StepLemmas.{step_changed, safe_moved}
use Rattle.port_store.proofs.StateLemmas.{state_popped}
use Rattle.port_store.proofs.ports.Ports.take_oldest.Goals as goal

pub invariant_of-self : goal.invariant_of-self
invariant_of-self g c =
    let shown : StoreView = record { opening = c.self.inside.opening; ports = map_of c.self.inside.table.items; rights = c.self.inside.grants } in
    let ports = map_of c.pop.new.table.items in
    step_changed shown c.self.invariant c.args.port without_oldest ports c.pop.ensures

pub returns-clause-state : goal.returns-clause-state
returns-clause-state g c =
    let shown : StoreView = record { opening = c.self.inside.opening; ports = map_of c.self.inside.table.items; rights = c.self.inside.grants } in
    let ports = map_of c.pop.new.table.items in
    rw (← c.self.view_is) (state_popped shown ports c.args.port c.pop.ensures)

pub returns-clause-safe : goal.returns-clause-safe
returns-clause-safe g c = λ d kept.
    let shown : StoreView = record { opening = c.self.inside.opening; ports = map_of c.self.inside.table.items; rights = c.self.inside.grants } in
    let ports = map_of c.pop.new.table.items in
    let safe = rw (← c.self.view_is) at kept in
    safe_moved d shown ports shown.rights safe (step_changed shown c.self.invariant c.args.port without_oldest ports c.pop.ensures) (safe_is d shown safe).rights
