use Rattle.std.proofs.Common.{ap, ◌∙◌}
use Rattle.access_vectors.specs.Stale.{slot_place}
use Rattle.retained_rights.specs.Claims.{claims_of}
use Rattle.retained_rights.proofs.MapLemmas.{mapped-remove}
use Rattle.file_store.specs.Stores.{StoreView, slots_of}
use Rattle.file_store.specs.Laws.{safe_is}
use Rattle.file_store.proofs.Linking.{step_freed, safe_changed, state_slots}
use Rattle.file_store.proofs.files.Files.free.Goals as goal

pub invariant_of-self : goal.invariant_of-self
invariant_of-self g c =
    let shown : StoreView = record { opening = c.self.inside.opening; nodes = c.self.inside.tree; rights = c.self.inside.grants } in
    let drop = c.drop_slot-held.ensures in
    step_freed shown c.drop_slot-held.new.self (slot_place c.args.client c.args.slot) c.self.invariant drop.rule drop.class drop.claims

pub returns-clause-state : goal.returns-clause-state
returns-clause-state g c =
    let shown : StoreView = record { opening = c.self.inside.opening; nodes = c.self.inside.tree; rights = c.self.inside.grants } in
    rw (← c.self.view_is) (state_slots shown c.drop_slot-held.new.self _ (ap (slots_of shown.nodes) c.drop_slot-held.ensures.claims ∙ mapped-remove _ (claims_of shown.rights) _))

pub returns-clause-safe : goal.returns-clause-safe
returns-clause-safe g c = λ d kept.
    let shown : StoreView = record { opening = c.self.inside.opening; nodes = c.self.inside.tree; rights = c.self.inside.grants } in
    let drop = c.drop_slot-held.ensures in
    let safe = rw (← c.self.view_is) at kept in
    safe_changed d shown c.drop_slot-held.new.self safe
    (step_freed shown c.drop_slot-held.new.self (slot_place c.args.client c.args.slot) c.self.invariant drop.rule drop.class drop.claims)
    (drop.fit d (safe_is d shown safe).rights)
