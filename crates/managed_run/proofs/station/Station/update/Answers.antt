use Rattle.std.proofs.Common.{false, length, append-nil, refl, sym, ap, ◌∙◌, subst, None}
use Rattle.std.specs.FinMap as maps
use Rattle.manager_history.specs.declared.entry.Entry.TheVariants as entry
use Rattle.managed_run.specs.Kinds.{kind_of, IsUncalled}
use Rattle.managed_run.specs.Laws.{alternates_lawful}
use Rattle.managed_run.specs.Changes.{HasFound}
use Rattle.epoch_gate.specs.Known.{seen_by}
use Rattle.managed_run.proofs.Keeping as keeping
use Rattle.managed_run.proofs.Changing as changing
use Rattle.gate_rule.specs.History.{last_notice}
use Rattle.managed_run.proofs.station.Station.update.Goals as goal

pub give_admin-requires-clause-value : goal.give_admin-requires-clause-value
give_admin-requires-clause-value g c =
    let value = c.take_admin-docket.ensures.value in
    let keeper = c.take_admin-docket.result.kept.value.keeper in
    let e = c.deref_mut.ensures.value in
    let told = c.update-left.ensures in
    let kept = c.entries-kept.ensures in
    let opened = (rw e at told.opening) ∙ value.3.opened in rw e (
      (λ i. record { core = c.take_admin-docket.result.kept.value.first.value; manager = (rw e at told.manager) i }) ∙ value.0,
      (rw e at told.decider) ∙ value.1,
      keeping.promised g.C.Core.plain g.C.Core.formed g.D.Decider.decides _ _ _ _ _ ((rw e at told.decider) ∙ value.1) (opened ∙ ap (λ (o : _). g.C.Core.opening o.core) value.0) (rw c.deref.ensures at kept.lawful),
      keeping.from_entries g.C.Core.plain _ g.C.Core.class g.C.Core.pair_of g.C.Core.opening g.C.Core.state g.C.Core.follows g.C.Core.stale c.take_admin-docket.result.kept.value.first.value c.update-left.new.self opened (rw c.deref.ensures at kept.replayed) (rw c.deref.ensures at kept.stale) (rw c.deref.ensures at kept.follows)
          (λ none. ap maps.entries (rw e at told.follows) ∙ keeping.unused_mapped _ _ (value.3.unused (subst IsUncalled (rw e at told.history) none))),
    )

pub returns-clause-turned : goal.returns-clause-turned
returns-clause-turned g c =
    let took = c.take_admin-docket.ensures in
    let value = took.value in
    let keeper = c.take_admin-docket.result.kept.value.keeper in
    let e = c.deref_mut.ensures.value in
    let told = c.update-left.ensures in
    let gave = c.give_admin.ensures in
    let found = keeping.found_by g.C.Core.plain (g.D.Decider.decides keeper.decider) g.C.Core.class g.C.Core.pair_of g.C.Core.opening g.C.Core.state g.C.Core.follows g.C.Core.stale c.take_admin-docket.result.kept.value.first.value keeper value.3 c.args.admin.now c.give_admin.new.admin took.learns (gave.found ∙ took.found) in
    record {
      found = subst (λ (l : _). HasFound l c.args.admin.now c.give_admin.new.admin) (sym (gave.seen ∙ (rw e at told.history))) found;
      turn = changing.turned c.args.admin.now c.take_admin-docket.new.admin c.give_admin.new.admin c.update-left.new.self.history (length (g.C.Core.stale c.update-left.new.self.core)) None None gave.turns took.turns
          (changing.item_added false (seen_by c.take_admin-docket.new.admin) keeper.history c.update-left.new.self.history (entry.Ack 0) took.seen ((rw e at told.history) ∙ sym (append-nil keeper.history))) took.shown gave.found gave.left;
      current = gave.same.number ∙ took.same.number;
      at_version = gave.same.version ∙ took.same.version;
    }

pub returns-clause-current : goal.returns-clause-current
returns-clause-current g c =
    let took = c.take_admin-docket.ensures in
    let e = c.deref_mut.ensures.value in
    let told = c.update-left.ensures in
    let gave = c.give_admin.ensures in
    changing.current_is _ c.update-left.new.self.history (alternates_lawful g.C.Core.plain g.C.Core.formed _ _ c.update-left.new.self.history (rw c.deref.ensures at c.entries-kept.ensures.lawful)) c.give_admin.new.admin gave.seen
    (ap (last_notice kind_of) (rw e at told.history) ∙ (took.learns.1.last ∙ (λ i. (sym (gave.same.number ∙ took.same.number) i, sym (gave.same.version ∙ took.same.version) i))))

pub returns-clause-rests : goal.returns-clause-rests
returns-clause-rests g c = (returns-clause-turned g c).found.rests

pub returns-clause-clear : goal.returns-clause-clear
returns-clause-clear g c = let told = returns-clause-turned g c in changing.stays_clear None None c.args.admin.now c.give_admin.new.admin told.turn told.found.clear (λ none. refl)
