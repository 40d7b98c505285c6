use Rattle.std.proofs.Common.{ap, ◌∙◌}
use Rattle.access_vectors.specs.Stale.{slot_place}
use Rattle.slot_tables.specs.Slots.{map_of}
use Rattle.retained_rights.specs.Claims.{claims_of}
use Rattle.retained_rights.proofs.MapLemmas.{mapped-remove}
use Rattle.retained_rights.proofs.StepLemmas.{step_freed}
use Rattle.process_store.specs.Stores.{StoreView, slots_of}
use Rattle.process_store.specs.Laws.{safe_is}
use Rattle.process_store.proofs.Linking.{safe_changed, state_changed}
use Rattle.process_store.proofs.processes.Processes.free.Goals as goal

pub invariant_of-self : goal.invariant_of-self
invariant_of-self g c =
    let drop = c.drop_slot-held.ensures in
    record {
      count_is = c.self.invariant.count_is;
      step = step_freed c.self.invariant.step c.drop_slot-held.new.self drop.rule drop.class (slot_place c.args.client c.args.slot) drop.claims;
    }

pub returns-clause-state : goal.returns-clause-state
returns-clause-state g c =
    let shown : StoreView = record { opening = c.self.inside.opening; processes = map_of c.self.inside.table; rights = c.self.inside.grants } in
    rw (← c.self.view_is) (state_changed shown c.drop_slot-held.new.self _ (ap slots_of c.drop_slot-held.ensures.claims ∙ mapped-remove _ (claims_of shown.rights) _))

pub returns-clause-safe : goal.returns-clause-safe
returns-clause-safe g c = λ d kept.
    let shown : StoreView = record { opening = c.self.inside.opening; processes = map_of c.self.inside.table; rights = c.self.inside.grants } in
    let safe = rw (← c.self.view_is) at kept in
    let drop = c.drop_slot-held.ensures in
    safe_changed d shown c.drop_slot-held.new.self safe
    (step_freed c.self.invariant.step c.drop_slot-held.new.self drop.rule drop.class (slot_place c.args.client c.args.slot) drop.claims)
    (drop.fit d (safe_is d shown safe).rights)
