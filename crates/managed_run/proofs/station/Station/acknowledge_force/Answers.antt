use Rattle.std.proofs.Common.{◌≡◌, ℕ, true, ◌++◌, length, refl, sym, ap, ◌∙◌, subst, None}
use Rattle.std.specs.FinMap as maps
use Rattle.access_vectors.specs.Phases.{number_of, is_pending}
use Rattle.manager_history.specs.declared.entry.Entry.TheVariants as entry
use Rattle.manager_history.specs.Kept.{ack_answer, is_done}
use Rattle.managed_run.specs.Kinds.{kind_of, phase_of}
use Rattle.managed_run.specs.Laws.{alternates_lawful}
use Rattle.managed_run.specs.Changes.{AllFollow, counts_passes, entries_if, item_if}
use Rattle.managed_run.proofs.Reading as reading
use Rattle.managed_run.proofs.Keeping as keeping
use Rattle.managed_run.proofs.Changing as changing
use Rattle.managed_run.proofs.station.Station.acknowledge_force.Goals as goal

pub give_admin-requires-clause-history : goal.give_admin-requires-clause-history
give_admin-requires-clause-history g c =
    let took = c.take_admin-docket.ensures in
    let value = took.value in
    let keeper = c.take_admin-docket.result.kept.value.keeper in
    let told = c.force-answer.ensures in
    let lawful = alternates_lawful g.C.Core.plain g.C.Core.formed _ _ keeper.history value.2 in
    let newest : number_of keeper.phase ≡ c.args.admin.now.view.admin_view.newest = ap number_of value.3.phase ∙ (sym (reading.newest_is kind_of _ keeper.history lawful) ∙ ap (λ (p : _). p.0) took.learns.1.last) in
    let means = changing.done_means keeper.phase keeper.manager 0 (length (g.C.Core.stale keeper.core)) c.force-answer.result (rw c.deref_mut.ensures.value at told.answer) in
    let grown = changing.grown_if c.force-answer.result keeper c.force-answer.new.self (entry.Forced (number_of keeper.phase)) (rw c.deref_mut.ensures.value at told.added) (rw c.deref_mut.ensures.value at told.as_before) in
    changing.extends_ack (is_done c.force-answer.result) true c.take_admin-docket.new.admin keeper.history c.force-answer.new.self.history (number_of keeper.phase) grown (took.seen) (took.learns.1.last ∙ (λ i. (sym took.same.number i, sym took.same.version i)))
    (newest ∙ sym took.same.number) (λ done is. absurd (cc))

pub give_admin-requires-clause-value : goal.give_admin-requires-clause-value
give_admin-requires-clause-value g c =
    let value = c.take_admin-docket.ensures.value in
    let keeper = c.take_admin-docket.result.kept.value.keeper in
    let told = c.force-answer.ensures in
    let kept = c.entries-kept.ensures in
    let opened = (rw c.deref_mut.ensures.value at told.opening) ∙ value.3.opened in rw c.deref_mut.ensures.value (
      (λ i. record { core = c.take_admin-docket.result.kept.value.first.value; manager = (rw c.deref_mut.ensures.value at told.manager) i }) ∙ value.0,
      (rw c.deref_mut.ensures.value at told.decider) ∙ value.1,
      keeping.promised g.C.Core.plain g.C.Core.formed g.D.Decider.decides _ _ _ _ _ ((rw c.deref_mut.ensures.value at told.decider) ∙ value.1) (opened ∙ ap (λ (o : _). g.C.Core.opening o.core) value.0) (rw c.deref-2.ensures at kept.lawful),
      keeping.from_entries g.C.Core.plain _ g.C.Core.class g.C.Core.pair_of g.C.Core.opening g.C.Core.state g.C.Core.follows g.C.Core.stale c.take_admin-docket.result.kept.value.first.value c.force-answer.new.self opened (rw c.deref-2.ensures at kept.replayed) (rw c.deref-2.ensures at kept.stale) (rw c.deref-2.ensures at kept.follows)
          (keeping.unused_ack g.C.Core.follows c.force-answer.result keeper c.force-answer.new.self (number_of keeper.phase) (entry.Forced (number_of keeper.phase)) (λ n. refl) (rw c.deref_mut.ensures.value at told.added) (rw c.deref_mut.ensures.value at told.as_before) (rw c.deref_mut.ensures.value at told.follows) value.3.unused),
    )

pub returns-clause-acknowledged : goal.returns-clause-acknowledged
returns-clause-acknowledged g c =
    let took = c.take_admin-docket.ensures in
    let value = took.value in
    let keeper = c.take_admin-docket.result.kept.value.keeper in
    let told = c.force-answer.ensures in
    let lawful = alternates_lawful g.C.Core.plain g.C.Core.formed _ _ keeper.history value.2 in
    let newest : number_of keeper.phase ≡ c.args.admin.now.view.admin_view.newest = ap number_of value.3.phase ∙ (sym (reading.newest_is kind_of _ keeper.history lawful) ∙ ap (λ (p : _). p.0) took.learns.1.last) in
    let means = changing.done_means keeper.phase keeper.manager 0 (length (g.C.Core.stale keeper.core)) c.force-answer.result (rw c.deref_mut.ensures.value at told.answer) in
    let grown = changing.grown_if c.force-answer.result keeper c.force-answer.new.self (entry.Forced (number_of keeper.phase)) (rw c.deref_mut.ensures.value at told.added) (rw c.deref_mut.ensures.value at told.as_before) in
    let gave = c.give_admin.ensures in
    let kept = c.entries-kept.ensures in
    let stale = gave.found ∙ took.found in
    let phase = value.3.phase in
    record {
      before = keeper.history;
      found = keeping.found_by g.C.Core.plain (g.D.Decider.decides keeper.decider) g.C.Core.class g.C.Core.pair_of g.C.Core.opening g.C.Core.state g.C.Core.follows g.C.Core.stale c.take_admin-docket.result.kept.value.first.value keeper value.3 c.args.admin.now c.give_admin.new.admin took.learns (stale);
      older = 0;
      looked = None;
      counted = (refl, refl);
      answer_is = (rw c.deref_mut.ensures.value at told.answer) ∙ (λ i. ack_answer (phase i) ((ap (λ (o : _). o.manager) (value.0 ∙ ap (λ (s : _). s.fixed.opening) c.self.view_is)) i) 0 ((sym stale) i));
      seen = gave.seen ∙ (grown ∙ (λ i. keeper.history ++ entries_if (is_done c.force-answer.result) (entry.Forced (number_of (phase i)))));
      turn = changing.turned c.args.admin.now c.take_admin-docket.new.admin c.give_admin.new.admin c.force-answer.new.self.history (length (g.C.Core.stale c.force-answer.new.self.core)) _ _ gave.turns took.turns
          (changing.item_added (is_done c.force-answer.result) c.take_admin-docket.new.admin.view.seen keeper.history c.force-answer.new.self.history (entry.Forced (number_of keeper.phase)) (took.seen) grown ∙ (λ i. item_if (is_done c.force-answer.result) (entry.Forced (number_of (phase i))))) took.shown gave.found gave.left;
      left = gave.left ∙ (keeping.left_is g.C.Core.stale c.force-answer.result keeper c.force-answer.new.self (rw c.deref_mut.ensures.value at told.as_before)
          (λ done. (rw c.deref-2.ensures at kept.stale) ∙ keeping.settled_stale (g.D.Decider.decides c.force-answer.new.self.decider) g.C.Core.class c.force-answer.new.self.phase (g.C.Core.pair_of (g.C.Core.state c.force-answer.new.self.core)) (g.C.Core.follows c.force-answer.new.self.core) (ap is_pending ((rw c.deref_mut.ensures.value at told.settled) done) ∙ changing.rests keeper.phase)) (λ done. (means done).2) ∙ sym stale);
      cleared = λ is done. absurd (cc);
      given = λ done. subst (λ (n : ℕ). AllFollow n c.give_admin.new.admin.view.admin_view.given) (ap number_of value.3.phase)
          (subst (AllFollow (number_of keeper.phase)) (sym (gave.given ∙ ap maps.entries ((rw c.deref_mut.ensures.value at told.follows) done))) (keeping.all_follow (number_of keeper.phase) (g.C.Core.follows keeper.core)));
      current = gave.same.number ∙ took.same.number;
      at_version = gave.same.version ∙ took.same.version;
    }

pub returns-clause-done : goal.returns-clause-done
returns-clause-done g c = changing.settled_of true _ c.force-answer.result c.args.admin.now c.give_admin.new.admin (returns-clause-acknowledged g c)

pub returns-clause-current : goal.returns-clause-current
returns-clause-current g c =
    let took = c.take_admin-docket.ensures in
    let keeper = c.take_admin-docket.result.kept.value.keeper in
    let told = c.force-answer.ensures in
    let done = returns-clause-acknowledged g c in
    let grown = changing.grown_if c.force-answer.result keeper c.force-answer.new.self (entry.Forced (number_of keeper.phase)) (rw c.deref_mut.ensures.value at told.added) (rw c.deref_mut.ensures.value at told.as_before) in
    changing.current_is _ c.force-answer.new.self.history (alternates_lawful g.C.Core.plain g.C.Core.formed _ _ c.force-answer.new.self.history (rw c.deref-2.ensures at c.entries-kept.ensures.lawful)) c.give_admin.new.admin c.give_admin.ensures.seen
    (changing.last_ack (is_done c.force-answer.result) true keeper.history c.force-answer.new.self.history (number_of keeper.phase) grown ∙ (took.learns.1.last ∙ (λ i. (sym done.current i, sym done.at_version i))))

pub returns-clause-clear : goal.returns-clause-clear
returns-clause-clear g c =
    let told = returns-clause-acknowledged g c in
    changing.stays_clear _ told.looked c.args.admin.now c.give_admin.new.admin told.turn told.found.clear (changing.none_counted (counts_passes (is_pending (phase_of told.before)) true) told.older told.looked c.args.admin.now c.give_admin.new.admin told.counted)
