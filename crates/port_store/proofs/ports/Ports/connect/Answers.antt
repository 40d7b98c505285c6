use Rattle.std.proofs.Common.{ℕ, IsTrue, sym, subst}
use Rattle.access_vectors.specs.Decisions.{Decisions}
use Rattle.access_vectors.specs.Stale.{slot_place}
use Rattle.slot_tables.specs.Slots.{map_of}
use Rattle.retained_rights.specs.Claims.{Claim}
use Rattle.retained_rights.specs.Rights.{Fit}
use Rattle.port_store.specs.Stores.{StoreView}
use Rattle.port_store.specs.Laws.{safe_is}
use Rattle.port_store.proofs.LabelLemmas.{known_label}
use Rattle.port_store.proofs.StepLemmas.{step_filled, safe_moved}
use Rattle.port_store.proofs.StateLemmas.{state_filled}
use Rattle.port_store.proofs.ports.Ports.connect.Goals as goal

pub vector_at-vector-requires-clause-target : goal.vector_at-vector-requires-clause-target
vector_at-vector-requires-clause-target g c =
    let safe = safe_is (g.A.Asker.decides c.args.asker.now) c.args.self.now c.requires.safe in
    subst (λ (sid : ℕ). IsTrue ((g.A.Asker.decides c.args.asker.now).known sid)) c.requires.target (known_label (g.A.Asker.decides c.args.asker.now) c.args.self.now.opening c.args.filling.port safe.known)

pub add-requires-clause-fit : goal.add-requires-clause-fit
add-requires-clause-fit g c =
    let shown : StoreView = record { opening = c.self.inside.opening; ports = map_of c.self.inside.table.items; rights = c.self.inside.grants } in
    subst (λ (d : Decisions). Fit d c.self.inside.grants) (sym c.vector_at-vector.ensures.decides)
    (safe_is (g.A.Asker.decides c.args.asker.now) shown (rw (← c.self.view_is) at c.requires.safe)).rights

pub add-requires-clause-target : goal.add-requires-clause-target
add-requires-clause-target g c =
    let shown : StoreView = record { opening = c.self.inside.opening; ports = map_of c.self.inside.table.items; rights = c.self.inside.grants } in
    let safe = safe_is (g.A.Asker.decides c.args.asker.now) shown (rw (← c.self.view_is) at c.requires.safe) in
    subst (λ (d : Decisions). IsTrue (d.known c.args.filling.t)) (sym c.vector_at-vector.ensures.decides)
    (subst (λ (sid : ℕ). IsTrue ((g.A.Asker.decides c.args.asker.now).known sid)) (rw (← c.self.view_is) at c.requires.target) (known_label (g.A.Asker.decides c.args.asker.now) shown.opening c.args.filling.port safe.known))

pub invariant_of-self-2 : goal.invariant_of-self-2
invariant_of-self-2 g c =
    let shown : StoreView = record { opening = c.self.inside.opening; ports = map_of c.self.inside.table.items; rights = c.self.inside.grants } in
    let claim : Claim = record { object = c.args.filling.port; mode = c.args.filling.mode; s = c.args.filling.s; t = c.args.filling.t } in
    let add = c.add.ensures in
    step_filled shown c.self.invariant c.add.new.self add.rule add.class shown.ports c.args.client c.args.slot claim (λ port there. there) c.ranges.slot.fits
    (rw (← c.self.view_is) at c.requires.bound) (rw (← c.self.view_is) at c.requires.target) (rw (← c.self.view_is) at c.requires.source) c.requires.mode c.in-Ok.ensures.claims

pub returns-clause-state : goal.returns-clause-state
returns-clause-state g c =
    let shown : StoreView = record { opening = c.self.inside.opening; ports = map_of c.self.inside.table.items; rights = c.self.inside.grants } in
    let claim : Claim = record { object = c.args.filling.port; mode = c.args.filling.mode; s = c.args.filling.s; t = c.args.filling.t } in
    rw (← c.self.view_is) (state_filled shown shown.ports c.add.new.self (slot_place c.args.client c.args.slot) claim c.in-Ok.ensures.claims)

pub returns-clause-safe : goal.returns-clause-safe
returns-clause-safe g c =
    let shown : StoreView = record { opening = c.self.inside.opening; ports = map_of c.self.inside.table.items; rights = c.self.inside.grants } in
    let claim : Claim = record { object = c.args.filling.port; mode = c.args.filling.mode; s = c.args.filling.s; t = c.args.filling.t } in
    let add = c.add.ensures in
    safe_moved (g.A.Asker.decides c.args.asker.now) shown shown.ports c.add.new.self (rw (← c.self.view_is) at c.requires.safe)
    (step_filled shown c.self.invariant c.add.new.self add.rule add.class shown.ports c.args.client c.args.slot claim (λ port there. there) c.ranges.slot.fits
    (rw (← c.self.view_is) at c.requires.bound) (rw (← c.self.view_is) at c.requires.target) (rw (← c.self.view_is) at c.requires.source) c.requires.mode c.in-Ok.ensures.claims)
    (subst (λ (d : Decisions). Fit d c.add.new.self) c.vector_at-vector.ensures.decides add.fit)
