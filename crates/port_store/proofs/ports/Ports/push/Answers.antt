use Rattle.std.proofs.Common.{◌∙◌, ap}
use Rattle.slot_tables.specs.Slots.{map_of}
use Rattle.port_store.specs.Stores.{StoreView}
use Rattle.port_store.specs.Laws.{safe_is}
use Rattle.port_store.specs.Queues.{changed, with_newest}
use Rattle.port_store.proofs.StepLemmas.{step_changed, safe_moved}
use Rattle.port_store.proofs.StateLemmas.{state_pushed}
use Rattle.port_store.proofs.ports.Ports.push.Goals as goal

pub invariant_of-self : goal.invariant_of-self
invariant_of-self g c =
    let shown : StoreView = record { opening = c.self.inside.opening; ports = map_of c.self.inside.table.items; rights = c.self.inside.grants } in
    let ports = map_of c.push.new.table.items in
    step_changed shown c.self.invariant c.args.port (λ bound. with_newest bound c.args.message.now) ports (c.push.ensures ∙ ap (λ message. changed shown.ports c.args.port (λ bound. with_newest bound message)) c.in_ok-kept.ensures)

pub returns-clause-state : goal.returns-clause-state
returns-clause-state g c =
    let shown : StoreView = record { opening = c.self.inside.opening; ports = map_of c.self.inside.table.items; rights = c.self.inside.grants } in
    let ports = map_of c.push.new.table.items in
    rw (← c.self.view_is) (state_pushed shown ports c.args.port c.args.message.now (c.push.ensures ∙ ap (λ message. changed shown.ports c.args.port (λ bound. with_newest bound message)) c.in_ok-kept.ensures))

pub returns-clause-safe : goal.returns-clause-safe
returns-clause-safe g c = λ d kept.
    let shown : StoreView = record { opening = c.self.inside.opening; ports = map_of c.self.inside.table.items; rights = c.self.inside.grants } in
    let ports = map_of c.push.new.table.items in
    let safe = rw (← c.self.view_is) at kept in
    safe_moved d shown ports shown.rights safe (step_changed shown c.self.invariant c.args.port (λ bound. with_newest bound c.args.message.now) ports (c.push.ensures ∙ ap (λ message. changed shown.ports c.args.port (λ bound. with_newest bound message)) c.in_ok-kept.ensures)) (safe_is d shown safe).rights
