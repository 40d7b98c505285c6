use Rattle.std.proofs.Common.{ℕ, IsTrue, sym, ap, subst, ◌∙◌}
use Rattle.access_vectors.specs.Decisions.{Decisions}
use Rattle.access_vectors.specs.Stale.{slot_place}
use Rattle.slot_tables.specs.Slots.{map_of}
use Rattle.retained_rights.specs.Claims.{Claim, claims_of}
use Rattle.retained_rights.specs.Rights.{Fit}
use Rattle.retained_rights.proofs.MapLemmas.{mapped-insert}
use Rattle.retained_rights.proofs.StepLemmas.{step_filled}
use Rattle.process_store.specs.Stores.{StoreView, IsLinked, slots_of}
use Rattle.process_store.specs.Laws.{safe_is}
use Rattle.process_store.specs.declared.attachment.Attachment.{Attachment}
use Rattle.process_store.proofs.Linking.{link_filled, safe_changed, state_changed, process_known}
use Rattle.process_store.proofs.processes.Processes.attach.Goals as goal

-- what the attached slot is for
abbrev claim_of : ℕ → Attachment → Claim
claim_of mode attachment = record { object = attachment.pid; mode = mode; s = attachment.s; t = attachment.t }

pub vector_at-vector-requires-clause-target : goal.vector_at-vector-requires-clause-target
vector_at-vector-requires-clause-target g c =
    process_known (g.A.Asker.decides c.args.asker.now) c.args.self.now c.args.attachment.pid c.args.attachment.t c.requires.safe c.requires.target

pub add-requires-clause-fit : goal.add-requires-clause-fit
add-requires-clause-fit g c =
    let shown : StoreView = record { opening = c.self.inside.opening; processes = map_of c.self.inside.table; rights = c.self.inside.grants } in
    subst (λ (d : Decisions). Fit d c.self.inside.grants) (sym c.vector_at-vector.ensures.decides)
    (safe_is (g.A.Asker.decides c.args.asker.now) shown (rw (← c.self.view_is) at c.requires.safe)).rights

pub add-requires-clause-target : goal.add-requires-clause-target
add-requires-clause-target g c =
    let shown : StoreView = record { opening = c.self.inside.opening; processes = map_of c.self.inside.table; rights = c.self.inside.grants } in
    subst (λ (d : Decisions). IsTrue (d.known c.args.attachment.t)) (sym c.vector_at-vector.ensures.decides)
    (process_known (g.A.Asker.decides c.args.asker.now) shown c.args.attachment.pid c.args.attachment.t (rw (← c.self.view_is) at c.requires.safe) (rw (← c.self.view_is) at c.requires.target))

pub invariant_of-self-2 : goal.invariant_of-self-2
invariant_of-self-2 g c =
    let shown : StoreView = record { opening = c.self.inside.opening; processes = map_of c.self.inside.table; rights = c.self.inside.grants } in
    let claim = claim_of c.of.result c.args.attachment in
    record {
      count_is = c.self.invariant.count_is;
      step = step_filled c.self.invariant.step c.add.new.self c.add.ensures.rule c.add.ensures.class (IsLinked shown.opening.clients shown.processes) (slot_place c.args.client c.args.slot) claim
          c.in-Ok.ensures.claims (λ place one link. link)
          (link_filled shown c.args.client c.args.slot claim c.ranges.slot.fits (rw (← c.self.view_is) at c.requires.target) (rw (← c.self.view_is) at c.requires.source) c.of.ensures);
    }

pub returns-clause-state : goal.returns-clause-state
returns-clause-state g c =
    let shown : StoreView = record { opening = c.self.inside.opening; processes = map_of c.self.inside.table; rights = c.self.inside.grants } in
    rw (← c.self.view_is) (state_changed shown c.add.new.self _ (ap slots_of c.in-Ok.ensures.claims ∙ mapped-insert _ (claims_of shown.rights) _ _))

pub returns-clause-safe : goal.returns-clause-safe
returns-clause-safe g c =
    let shown : StoreView = record { opening = c.self.inside.opening; processes = map_of c.self.inside.table; rights = c.self.inside.grants } in
    let claim = claim_of c.of.result c.args.attachment in
    safe_changed (g.A.Asker.decides c.args.asker.now) shown c.add.new.self (rw (← c.self.view_is) at c.requires.safe)
    (step_filled c.self.invariant.step c.add.new.self c.add.ensures.rule c.add.ensures.class (IsLinked shown.opening.clients shown.processes) (slot_place c.args.client c.args.slot) claim
    c.in-Ok.ensures.claims (λ place one link. link)
    (link_filled shown c.args.client c.args.slot claim c.ranges.slot.fits (rw (← c.self.view_is) at c.requires.target) (rw (← c.self.view_is) at c.requires.source) c.of.ensures))
    (subst (λ (d : Decisions). Fit d c.add.new.self) c.vector_at-vector.ensures.decides c.add.ensures.fit)
