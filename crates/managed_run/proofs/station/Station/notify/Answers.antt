use Rattle.std.proofs.Common.{◌≡◌, ℕ, true, false, length, ◌+◌, ◌<◌, append-nil, refl, sym, ap, ◌∙◌, subst, None, arith}
use Rattle.std.specs.FinMap as maps
use Rattle.access_vectors.specs.Phases.{number_of}
use Rattle.manager_history.specs.declared.entry.Entry.TheVariants as entry
use Rattle.managed_run.specs.Kinds.{kind_of}
use Rattle.managed_run.specs.Laws.{alternates_lawful}
use Rattle.managed_run.specs.Changes.{HasFound}
use Rattle.managed_run.proofs.Reading as reading
use Rattle.managed_run.proofs.Keeping as keeping
use Rattle.managed_run.proofs.Changing as changing
use Rattle.access_vectors.specs.Notices.{notice_fault}
use Rattle.access_vectors.specs.Phases.{settled_number}
use Rattle.gate_rule.specs.History.{settled_in, last_notice}
use Rattle.gate_rule.proofs.Histories.{notice_more}
use Rattle.managed_run.proofs.station.Station.notify.Goals as goal

pub notify-said-requires : goal.notify-said-requires
notify-said-requires g c =
    let took = c.take_admin-docket.ensures in
    let value = took.value in
    let keeper = c.take_admin-docket.result.kept.value.keeper in
    let lawful = alternates_lawful g.C.Core.plain g.C.Core.formed _ _ keeper.history value.2 in
    let newest : number_of keeper.phase ≡ c.args.admin.now.view.admin_view.newest = ap number_of value.3.phase ∙ (sym (reading.newest_is kind_of _ keeper.history lawful) ∙ ap (λ (p : _). p.0) took.learns.1.last) in
    let within = (c.current-within.ensures.within _ c.requires.gate.1).1 in
    let most = c.most.ensures ∙ ap (λ (s : _). s.fixed.most) c.self.view_is in
    rw c.deref_mut.ensures.value (omega (arith, newest, within, most))

pub raise-requires-clause-settled : goal.raise-requires-clause-settled
raise-requires-clause-settled g c =
    let took = c.take_admin-docket.ensures in
    let value = took.value in
    let keeper = c.take_admin-docket.result.kept.value.keeper in
    let lawful = alternates_lawful g.C.Core.plain g.C.Core.formed _ _ keeper.history value.2 in
    let newest : number_of keeper.phase ≡ c.args.admin.now.view.admin_view.newest = ap number_of value.3.phase ∙ (sym (reading.newest_is kind_of _ keeper.history lawful) ∙ ap (λ (p : _). p.0) took.learns.1.last) in
    let allowed = changing.allowed_is keeper.phase _ c.args.ver c.most.result (rw c.deref_mut.ensures.value at c.in-Ok.ensures.allowed) in
    ap (settled_in kind_of) took.seen ∙ (reading.settled_is kind_of _ keeper.history lawful ∙ (ap settled_number (sym value.3.phase) ∙ (changing.same_number keeper.phase allowed.0 ∙ (newest ∙ sym took.same.number))))

pub raise-requires-clause-most : goal.raise-requires-clause-most
raise-requires-clause-most g c =
    let took = c.take_admin-docket.ensures in
    let value = took.value in
    let keeper = c.take_admin-docket.result.kept.value.keeper in
    let lawful = alternates_lawful g.C.Core.plain g.C.Core.formed _ _ keeper.history value.2 in
    let newest : number_of keeper.phase ≡ c.args.admin.now.view.admin_view.newest = ap number_of value.3.phase ∙ (sym (reading.newest_is kind_of _ keeper.history lawful) ∙ ap (λ (p : _). p.0) took.learns.1.last) in
    let allowed = changing.allowed_is keeper.phase _ c.args.ver c.most.result (rw c.deref_mut.ensures.value at c.in-Ok.ensures.allowed) in
    let within = (c.current-within.ensures.within _ c.requires.gate.1).1 in
    let most = c.most.ensures in
    let view = ap (λ (s : _). s.fixed.most) c.self.view_is in
    changing.below _ _ (let n = newest in let m = took.same.number in omega (arith, n, m, within, view)) (λ e. allowed.2 (newest ∙ (sym took.same.number ∙ (e ∙ sym most))))

pub raise-requires-clause-version : goal.raise-requires-clause-version
raise-requires-clause-version g c =
    let took = c.take_admin-docket.ensures in
    let value = took.value in
    let keeper = c.take_admin-docket.result.kept.value.keeper in
    let lawful = alternates_lawful g.C.Core.plain g.C.Core.formed _ _ keeper.history value.2 in
    let newest : number_of keeper.phase ≡ c.args.admin.now.view.admin_view.newest = ap number_of value.3.phase ∙ (sym (reading.newest_is kind_of _ keeper.history lawful) ∙ ap (λ (p : _). p.0) took.learns.1.last) in
    let allowed = changing.allowed_is keeper.phase _ c.args.ver c.most.result (rw c.deref_mut.ensures.value at c.in-Ok.ensures.allowed) in
    subst (λ (d : _). c.args.ver < (g.D.Decider.decides d).versions) value.1 allowed.1

pub give_admin-requires-clause-history : goal.give_admin-requires-clause-history
give_admin-requires-clause-history g c =
    let took = c.take_admin-docket.ensures in
    let value = took.value in
    let keeper = c.take_admin-docket.result.kept.value.keeper in
    let lawful = alternates_lawful g.C.Core.plain g.C.Core.formed _ _ keeper.history value.2 in
    let newest : number_of keeper.phase ≡ c.args.admin.now.view.admin_view.newest = ap number_of value.3.phase ∙ (sym (reading.newest_is kind_of _ keeper.history lawful) ∙ ap (λ (p : _). p.0) took.learns.1.last) in
    let raised = c.raise.ensures in
    changing.extends_notice c.raise.new.admin keeper.history c.notify-said.new.self.history c.in-Ok.number c.args.ver (rw c.deref_mut.ensures.value at c.in-Ok.ensures.added) (raised.seen ∙ took.seen) ((rw c.deref_mut.ensures.value at c.in-Ok.ensures.number) ∙ (ap (λ (n : ℕ). n + 1) (newest ∙ sym took.same.number) ∙ sym raised.number)) (sym raised.version)

pub give_admin-requires-clause-value : goal.give_admin-requires-clause-value
give_admin-requires-clause-value g c =
    let value = c.take_admin-docket.ensures.value in
    let keeper = c.take_admin-docket.result.kept.value.keeper in
    let told = c.notify-said.ensures in
    let kept = c.entries-kept.ensures in
    let opened = (rw c.deref_mut.ensures.value at told.opening) ∙ value.3.opened in rw c.deref_mut.ensures.value (
      (λ i. record { core = c.take_admin-docket.result.kept.value.first.value; manager = (rw c.deref_mut.ensures.value at told.manager) i }) ∙ value.0,
      (rw c.deref_mut.ensures.value at told.decider) ∙ value.1,
      keeping.promised g.C.Core.plain g.C.Core.formed g.D.Decider.decides _ _ _ _ _ ((rw c.deref_mut.ensures.value at told.decider) ∙ value.1) (opened ∙ ap (λ (o : _). g.C.Core.opening o.core) value.0) (rw c.deref.ensures at kept.lawful),
      keeping.from_entries g.C.Core.plain _ g.C.Core.class g.C.Core.pair_of g.C.Core.opening g.C.Core.state g.C.Core.follows g.C.Core.stale c.take_admin-docket.result.kept.value.first.value c.notify-said.new.self opened (rw c.deref.ensures at kept.replayed) (rw c.deref.ensures at kept.stale) (rw c.deref.ensures at kept.follows)
          (λ none. ap maps.entries (rw c.deref_mut.ensures.value at told.follows) ∙ value.3.unused (keeping.uncalled_before keeper.history c.notify-said.new.self.history (entry.Notice c.in-Ok.number c.args.ver) (λ n. refl) (rw c.deref_mut.ensures.value at c.in-Ok.ensures.added) none)),
    )

pub returns-in-Ok-clause-ok : goal.returns-in-Ok-clause-ok
returns-in-Ok-clause-ok g c =
    let took = c.take_admin-docket.ensures in
    let value = took.value in
    let keeper = c.take_admin-docket.result.kept.value.keeper in
    let lawful = alternates_lawful g.C.Core.plain g.C.Core.formed _ _ keeper.history value.2 in
    let newest : number_of keeper.phase ≡ c.args.admin.now.view.admin_view.newest = ap number_of value.3.phase ∙ (sym (reading.newest_is kind_of _ keeper.history lawful) ∙ ap (λ (p : _). p.0) took.learns.1.last) in
    let raised = c.raise.ensures in
    let gave = c.give_admin.ensures in
    let turn = ap (λ (v : _). v.admin_view.turns) raised.raised ∙ took.turns in
    let shown = ap (λ (v : _). v.admin_view.looked) raised.raised ∙ took.shown in
    let found = ap (λ (v : _). v.admin_view.found) raised.raised in
    let next = (rw c.deref_mut.ensures.value at c.in-Ok.ensures.number) ∙ ap (λ (n : ℕ). n + 1) newest in
    record {
      before = keeper.history;
      found = keeping.found_by g.C.Core.plain (g.D.Decider.decides keeper.decider) g.C.Core.class g.C.Core.pair_of g.C.Core.opening g.C.Core.state g.C.Core.follows g.C.Core.stale c.take_admin-docket.result.kept.value.first.value keeper value.3 c.args.admin.now c.give_admin.new.admin took.learns (gave.found ∙ (found ∙ took.found));
      allowed = (λ i. notice_fault (sym value.3.phase i) (g.D.Decider.decides ((sym (value.1 ∙ ap (λ (s : _). s.fixed.decider) c.self.view_is)) i)).versions c.args.ver ((sym (c.most.ensures ∙ ap (λ (s : _). s.fixed.most) c.self.view_is)) i)) ∙ (rw c.deref_mut.ensures.value at c.in-Ok.ensures.allowed);
      number_is = (rw c.deref_mut.ensures.value at c.in-Ok.ensures.number) ∙ ap (λ (p : _). number_of p + 1) value.3.phase;
      seen = gave.seen ∙ (rw c.deref_mut.ensures.value at c.in-Ok.ensures.added);
      turn = changing.turned c.args.admin.now c.raise.new.admin c.give_admin.new.admin c.notify-said.new.self.history (length (g.C.Core.stale c.notify-said.new.self.core)) _ _ gave.turns turn
          (changing.item_added true c.raise.new.admin.view.seen keeper.history c.notify-said.new.self.history (entry.Notice c.in-Ok.number c.args.ver) (raised.seen ∙ took.seen) (rw c.deref_mut.ensures.value at c.in-Ok.ensures.added)) shown gave.found gave.left;
      current = gave.same.number ∙ (raised.number ∙ (ap (λ (n : ℕ). n + 1) took.same.number ∙ sym next));
      at_version = gave.same.version ∙ raised.version;
    }

pub returns-in-Err-clause-err : goal.returns-in-Err-clause-err
returns-in-Err-clause-err g c =
    let took = c.take_admin-docket.ensures in
    let value = took.value in
    let keeper = c.take_admin-docket.result.kept.value.keeper in
    let lawful = alternates_lawful g.C.Core.plain g.C.Core.formed _ _ keeper.history value.2 in
    let newest : number_of keeper.phase ≡ c.args.admin.now.view.admin_view.newest = ap number_of value.3.phase ∙ (sym (reading.newest_is kind_of _ keeper.history lawful) ∙ ap (λ (p : _). p.0) took.learns.1.last) in
    let gave = c.give_admin-in-Err.ensures in
    let same = ap (λ (k : _). k.history) (rw c.deref_mut.ensures.value at c.in-Err.ensures.as_before) in
    let found = keeping.found_by g.C.Core.plain (g.D.Decider.decides keeper.decider) g.C.Core.class g.C.Core.pair_of g.C.Core.opening g.C.Core.state g.C.Core.follows g.C.Core.stale c.take_admin-docket.result.kept.value.first.value keeper value.3 c.args.admin.now c.give_admin-in-Err.new.admin took.learns (gave.found ∙ took.found) in
    record {
      found = subst (λ (l : _). HasFound l c.args.admin.now c.give_admin-in-Err.new.admin) (sym (gave.seen ∙ same)) found;
      turn = changing.turned c.args.admin.now c.take_admin-docket.new.admin c.give_admin-in-Err.new.admin c.notify-said.new.self.history (length (g.C.Core.stale c.notify-said.new.self.core)) None None gave.turns took.turns
          (changing.item_added false c.take_admin-docket.new.admin.view.seen keeper.history c.notify-said.new.self.history (entry.Ack 0) took.seen (same ∙ sym (append-nil keeper.history))) took.shown gave.found gave.left;
      current = gave.same.number ∙ took.same.number;
      at_version = gave.same.version ∙ took.same.version;
    }

pub returns-in-Ok-clause-current : goal.returns-in-Ok-clause-current
returns-in-Ok-clause-current g c =
    let told = returns-in-Ok-clause-ok g c in
    changing.current_is _ c.notify-said.new.self.history (alternates_lawful g.C.Core.plain g.C.Core.formed _ _ c.notify-said.new.self.history (rw c.deref.ensures at c.entries-kept.ensures.lawful)) c.give_admin.new.admin c.give_admin.ensures.seen
    (ap (last_notice kind_of) (rw c.deref_mut.ensures.value at c.in-Ok.ensures.added) ∙ (notice_more kind_of c.take_admin-docket.result.kept.value.keeper.history (entry.Notice c.in-Ok.number c.args.ver) ∙ (λ i. (sym told.current i, sym told.at_version i))))

pub returns-in-Ok-clause-clear : goal.returns-in-Ok-clause-clear
returns-in-Ok-clause-clear g c = let told = returns-in-Ok-clause-ok g c in changing.stays_clear _ None c.args.admin.now c.give_admin.new.admin told.turn told.found.clear (λ none. refl)

pub returns-in-Err-clause-current : goal.returns-in-Err-clause-current
returns-in-Err-clause-current g c =
    let took = c.take_admin-docket.ensures in
    let gave = c.give_admin-in-Err.ensures in
    changing.current_is _ c.notify-said.new.self.history (alternates_lawful g.C.Core.plain g.C.Core.formed _ _ c.notify-said.new.self.history (rw c.deref.ensures at c.entries-kept.ensures.lawful)) c.give_admin-in-Err.new.admin gave.seen
    (ap (λ (k : _). last_notice kind_of k.history) (rw c.deref_mut.ensures.value at c.in-Err.ensures.as_before) ∙ (took.learns.1.last ∙ (λ i. (sym (gave.same.number ∙ took.same.number) i, sym (gave.same.version ∙ took.same.version) i))))

pub returns-in-Err-clause-clear : goal.returns-in-Err-clause-clear
returns-in-Err-clause-clear g c = let told = returns-in-Err-clause-err g c in changing.stays_clear None None c.args.admin.now c.give_admin-in-Err.new.admin told.turn told.found.clear (λ none. refl)
