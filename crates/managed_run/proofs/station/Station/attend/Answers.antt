use Rattle.std.proofs.Common.{◌≡◌, ℕ, List, [], length, sym, ap, ◌∙◌, subst}
use Rattle.std.specs.Prelude.{IfOk, if◌then◌else◌}
use Rattle.access_vectors.specs.declared.asked.Asked.{Asked}
use Rattle.access_vectors.specs.Forced.{is_aborted}
use Rattle.gate_rule.specs.History.{of_caller}
use Rattle.managed.specs.Posts.{last_asked}
use Rattle.managed_run.specs.Kinds.{kind_of}
use Rattle.gate_rule.specs.Views.{caller_of, number_of, pass_version}
use Rattle.managed_run.specs.Laws.{alternates_lawful}
use Rattle.managed_run.proofs.Reading as reading
use Rattle.managed_run.proofs.Keeping as keeping
use Rattle.managed_run.proofs.Serving as serving
use Rattle.managed_run.proofs.station.Station.attend.Goals as goal

pub serve-answer-requires-clause-formed : goal.serve-answer-requires-clause-formed
serve-answer-requires-clause-formed g c =
    let value = c.take-docket.ensures.value in
    let keeper = c.take-docket.result.kept.value.keeper in
    let found = c.entries-found.ensures in
    let decider = value.1 ∙ ap (λ (s : _). s.fixed.decider) c.self.view_is in
    let opened = value.3.opened ∙ ap (λ (o : _). g.C.Core.opening o.core) (value.0 ∙ ap (λ (s : _). s.fixed.opening) c.self.view_is) in
    let at = reading.formed_as g.C.Core.formed g.D.Decider.decides _ keeper.decider _ (g.C.Core.opening keeper.core) _ c.number-caller.result c.args.asking.call (sym decider) (sym opened) (ap caller_of c.number-caller.ensures) c.requires.formed in
    let d = g.D.Decider.decides keeper.decider in
    rw c.deref_mut.ensures.value (subst (λ (state : _). g.C.Core.formed d state c.number-caller.result c.args.asking.call) (ap (λ (m : _). m.state) (rw c.deref.ensures at found.replayed))
    (reading.formed_after g.C.Core.plain d g.C.Core.formed (g.met.C.Core.formed_stays d) (g.C.Core.opening keeper.core) keeper.history c.number-caller.result c.args.asking.call (rw c.deref.ensures at found.lawful) at))

pub serve-answer-requires-clause-named : goal.serve-answer-requires-clause-named
serve-answer-requires-clause-named g c =
    let value = c.take-docket.ensures.value in
    let keeper = c.take-docket.result.kept.value.keeper in
    let learns = c.take-docket.ensures.learns in
    rw c.deref_mut.ensures.value (reading.call_named _ keeper.history (alternates_lawful g.C.Core.plain g.C.Core.formed _ _ keeper.history value.2) _ c.in-Some.number c.in-Some.field-0-1 keeper.phase c.in-Some.ensures.pass value.3.phase learns.1.1 c.take-docket.ensures.named).0

pub serve-answer-requires-clause-version : goal.serve-answer-requires-clause-version
serve-answer-requires-clause-version g c =
    let value = c.take-docket.ensures.value in
    let keeper = c.take-docket.result.kept.value.keeper in
    let learns = c.take-docket.ensures.learns in
    let said = (reading.call_named _ keeper.history (alternates_lawful g.C.Core.plain g.C.Core.formed _ _ keeper.history value.2) _ c.in-Some.number c.in-Some.field-0-1 keeper.phase c.in-Some.ensures.pass value.3.phase learns.1.1 c.take-docket.ensures.named).1 in
    rw c.deref_mut.ensures.value (λ goes. ap pass_version (c.take-docket.ensures.same.pass ∙ c.in-Some.ensures.pass) ∙ said goes)

pub give-requires-clause-history : goal.give-requires-clause-history
give-requires-clause-history g c =
    let took = c.take-docket.ensures in
    let keeper = c.take-docket.result.kept.value.keeper in
    let told = c.serve-answer.ensures in
    let same = told.same.1 in
    serving.extends_either c.serve-answer.result c.serve-answer.new.seat keeper c.serve-answer.new.keeper _ c.number-caller.result c.args.asking.mark c.in-Some.number c.in-Some.field-0-1
    (keeping.entry_kind g.C.Core.plain (g.D.Decider.decides keeper.decider) (g.C.Core.state keeper.core) keeper.phase c.number-caller.result c.args.asking.mark c.args.asking.call c.in-Some.number)
    (rw c.deref_mut.ensures.value at told.added) (rw c.deref_mut.ensures.value at told.as_before) (ap (λ (v : _). v.seen) same ∙ took.seen) (ap (λ (v : _). v.role) same ∙ (ap (λ (v : _). v.role) took.took ∙ c.number-caller.ensures))
    (ap (λ (v : _). v.rights.pass) same ∙ (took.same.pass ∙ c.in-Some.ensures.pass))

pub give-requires-clause-value : goal.give-requires-clause-value
give-requires-clause-value g c =
    let value = c.take-docket.ensures.value in
    let keeper = c.take-docket.result.kept.value.keeper in
    let told = c.serve-answer.ensures in
    let kept = c.entries-history.ensures in
    let opened = (rw c.deref_mut.ensures.value at told.opening) ∙ value.3.opened in rw c.deref_mut.ensures.value (
      (λ i. record { core = c.take-docket.result.kept.value.first.value; manager = (rw c.deref_mut.ensures.value at told.manager) i }) ∙ value.0,
      (rw c.deref_mut.ensures.value at told.decider) ∙ value.1,
      keeping.promised g.C.Core.plain g.C.Core.formed g.D.Decider.decides _ _ _ _ _ ((rw c.deref_mut.ensures.value at told.decider) ∙ value.1) (opened ∙ ap (λ (o : _). g.C.Core.opening o.core) value.0) (rw c.deref-2.ensures at kept.lawful),
      keeping.from_entries g.C.Core.plain _ g.C.Core.class g.C.Core.pair_of g.C.Core.opening g.C.Core.state g.C.Core.follows g.C.Core.stale c.take-docket.result.kept.value.first.value c.serve-answer.new.keeper opened (rw c.deref-2.ensures at kept.replayed) (rw c.deref-2.ensures at kept.stale) (rw c.deref-2.ensures at kept.follows)
          (keeping.unused_either g.C.Core.follows c.serve-answer.result keeper c.serve-answer.new.keeper _ c.number-caller.result c.args.asking.mark c.in-Some.number
          (keeping.entry_kind g.C.Core.plain (g.D.Decider.decides keeper.decider) (g.C.Core.state keeper.core) keeper.phase c.number-caller.result c.args.asking.mark c.args.asking.call c.in-Some.number) (rw c.deref_mut.ensures.value at told.added) (rw c.deref_mut.ensures.value at told.as_before) value.3.unused),
    )

pub returns-in_err-answer-clause-err : goal.returns-in_err-answer-clause-err
returns-in_err-answer-clause-err g c =
    let took = c.take-docket.ensures in
    let same = c.serve-answer.ensures.same.1 in
    let caller_s = ap caller_of c.number-caller.ensures in
    let caller_x = ap (λ (v : _). caller_of v.role) same ∙ took.same.number in
    serving.on_err c.from_residual.result
    (serving.added_none c.args.seat.now c.give.new.seat c.take-docket.result.kept.value.keeper.history c.serve-answer.new.keeper.history _ took.learns.0 (ap (λ (k : _). k.history) (rw c.deref_mut.ensures.value at c.in_err-answer.ensures.as_before)) c.give.ensures.seen took.learns.1.0
    (c.give.ensures.mine ∙ ap (λ (n : ℕ). of_caller kind_of n c.serve-answer.new.keeper.history) caller_x))

pub returns-in_err-answer-clause-turn : goal.returns-in_err-answer-clause-turn
returns-in_err-answer-clause-turn g c =
    let took = c.take-docket.ensures in
    let same = c.serve-answer.ensures.same.1 in
    serving.had_turn c.args.seat.now c.take-docket.new.seat c.serve-answer.new.seat c.give.new.seat c.serve-answer.new.keeper.history (length (g.C.Core.stale c.serve-answer.new.keeper.core)) took.waited took.turns (ap (λ (v : _). v.admin_view.turns) same) c.give.ensures.turns
    (ap (λ (v : _). v.trace) c.give.ensures.gave)

pub returns-clause-ok : goal.returns-clause-ok
returns-clause-ok g c =
    let took = c.take-docket.ensures in
    let value = took.value in
    let keeper = c.take-docket.result.kept.value.keeper in
    let new = c.serve-answer.new.keeper in
    let told = c.serve-answer.ensures in
    let same = told.same.1 in
    let gave = c.give.ensures in
    let caller_s = ap caller_of c.number-caller.ensures in
    let caller_x = ap (λ (v : _). caller_of v.role) same ∙ (took.same.number ∙ caller_s) in
    let d = g.D.Decider.decides keeper.decider in
    let at = g.C.Core.state keeper.core in
    let mark = c.args.asking.mark in
    let call = c.args.asking.call in
    let asked = serving.asked_if g.C.Core.plain d at keeper.phase c.number-caller.result mark call c.in-Some.number (is_aborted keeper.phase c.in-Some.number) in (
      asked,
      serving.attended g.C.Core.plain d at keeper.phase c.number-caller.result mark call c.in-Some.number g.C.Core.use_of c.args.seat.now c.take-docket.new.seat c.serve-answer.new.seat c.give.new.seat keeper.history new.history
          took.learns.0 value.3.phase gave.seen took.learns.1.0 gave.mine caller_s caller_x (ap number_of c.in-Some.ensures.pass) (g.C.Core.follows keeper.core) value.3.named took.follows (ap (λ (v : _). v.follows) same) gave.follows took.same.keys gave.same.keys
          _ (rw c.deref_mut.ensures.value at c.in_ok-answer.ensures.answer) (rw c.deref_mut.ensures.value at c.in_ok-answer.ensures.added) (rw c.deref_mut.ensures.value at told.unserved)
          (rw c.deref_mut.ensures.value at c.in_ok-answer.ensures.keys),
      subst (λ (x : List Asked). IfOk c.asked_last-copy.result (λ copy. copy ≡ (if c.args.asking.copies then x else [])))
          (ap last_asked (rw c.deref-2.ensures at c.entries-history.ensures.value) ∙ serving.asked_by g.C.Core.plain d at keeper.phase c.number-caller.result mark call c.in-Some.number keeper.history new.history (rw c.deref_mut.ensures.value at c.in_ok-answer.ensures.added)) c.asked_last-copy.ensures,
    )

pub returns-clause-turn : goal.returns-clause-turn
returns-clause-turn g c =
    let took = c.take-docket.ensures in
    let same = c.serve-answer.ensures.same.1 in
    serving.had_turn c.args.seat.now c.take-docket.new.seat c.serve-answer.new.seat c.give.new.seat c.serve-answer.new.keeper.history (length (g.C.Core.stale c.serve-answer.new.keeper.core)) took.waited took.turns (ap (λ (v : _). v.admin_view.turns) same) c.give.ensures.turns
    (ap (λ (v : _). v.trace) c.give.ensures.gave)
