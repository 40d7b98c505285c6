use Rattle.std.proofs.Common.{IsTrue, sym, ap, subst, ◌∙◌}
use Rattle.access_vectors.specs.Decisions.{Decisions}
use Rattle.retained_rights.specs.Claims.{Claim, claims_of}
use Rattle.retained_rights.specs.Rights.{Fit}
use Rattle.retained_rights.proofs.MapLemmas.{mapped-insert}
use Rattle.file_store.specs.Stores.{StoreView, slots_of}
use Rattle.file_store.specs.Laws.{safe_is}
use Rattle.file_store.proofs.Linking.{step_filled, safe_changed, state_slots, file_known}
use Rattle.file_store.proofs.files.Files.fill.Goals as goal

pub vector_at-vector-requires-clause-target : goal.vector_at-vector-requires-clause-target
vector_at-vector-requires-clause-target g c =
    file_known (g.A.Asker.decides c.args.asker.now) c.args.self.now c.args.filling.object c.args.filling.t c.requires.safe c.requires.target

pub add-requires-clause-fit : goal.add-requires-clause-fit
add-requires-clause-fit g c =
    let shown : StoreView = record { opening = c.self.inside.opening; nodes = c.self.inside.tree; rights = c.self.inside.grants } in
    subst (λ (d : Decisions). Fit d c.self.inside.grants) (sym c.vector_at-vector.ensures.decides)
    (safe_is (g.A.Asker.decides c.args.asker.now) shown (rw (← c.self.view_is) at c.requires.safe)).rights

pub add-requires-clause-target : goal.add-requires-clause-target
add-requires-clause-target g c =
    let shown : StoreView = record { opening = c.self.inside.opening; nodes = c.self.inside.tree; rights = c.self.inside.grants } in
    subst (λ (d : Decisions). IsTrue (d.known c.args.filling.t)) (sym c.vector_at-vector.ensures.decides)
    (file_known (g.A.Asker.decides c.args.asker.now) shown c.args.filling.object c.args.filling.t (rw (← c.self.view_is) at c.requires.safe) (rw (← c.self.view_is) at c.requires.target))

pub invariant_of-self-2 : goal.invariant_of-self-2
invariant_of-self-2 g c =
    let shown : StoreView = record { opening = c.self.inside.opening; nodes = c.self.inside.tree; rights = c.self.inside.grants } in
    let claim : Claim = record { object = c.args.filling.object; mode = c.args.filling.mode; s = c.args.filling.s; t = c.args.filling.t } in
    step_filled shown c.add.new.self c.args.client c.args.slot claim c.ranges.slot.fits c.self.invariant c.add.ensures.rule c.add.ensures.class
    (rw (← c.self.view_is) at c.requires.target) (rw (← c.self.view_is) at c.requires.source) c.in-Ok.ensures.claims

pub returns-clause-state : goal.returns-clause-state
returns-clause-state g c =
    let shown : StoreView = record { opening = c.self.inside.opening; nodes = c.self.inside.tree; rights = c.self.inside.grants } in
    rw (← c.self.view_is) (state_slots shown c.add.new.self _ (ap (slots_of shown.nodes) c.in-Ok.ensures.claims ∙ mapped-insert _ (claims_of shown.rights) _ _))

pub returns-clause-safe : goal.returns-clause-safe
returns-clause-safe g c =
    let shown : StoreView = record { opening = c.self.inside.opening; nodes = c.self.inside.tree; rights = c.self.inside.grants } in
    let claim : Claim = record { object = c.args.filling.object; mode = c.args.filling.mode; s = c.args.filling.s; t = c.args.filling.t } in
    safe_changed (g.A.Asker.decides c.args.asker.now) shown c.add.new.self (rw (← c.self.view_is) at c.requires.safe)
    (step_filled shown c.add.new.self c.args.client c.args.slot claim c.ranges.slot.fits c.self.invariant c.add.ensures.rule c.add.ensures.class
    (rw (← c.self.view_is) at c.requires.target) (rw (← c.self.view_is) at c.requires.source) c.in-Ok.ensures.claims)
    (subst (λ (d : Decisions). Fit d c.add.new.self) c.vector_at-vector.ensures.decides c.add.ensures.fit)
