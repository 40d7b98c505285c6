-- The log of a run has the audit lines of its histories.
use Rattle.std.proofs.Common.{◌≡◌, ◌∙◌, ℕ, ◌+◌, ◌<◌, Bool, true, false, List, [], ◌∷◌, ◌++◌, map, length, All, Some, refl, sym, ap, subst, arith}
use Rattle.std.specs.Prelude.{slice_get, is_ok, if◌then◌else◌}
use Rattle.std.specs.List.{AllZip, list_all}
use Rattle.std.proofs.lemmas.List.Sums.{AllPass-from_list_all}
use mathlib.Core.Option.{some}
use lib.ListN.{get_elem?}
use Rattle.access_vectors.specs.Decisions.{Decisions}
use Rattle.manager_history.specs.declared.entry.Entry.{Entry}
use Rattle.file_calls.specs.declared.call.FileCall.{FileCall}
use Rattle.file_calls.specs.declared.call.FileReply.{FileReply}
use Rattle.process_calls.specs.declared.call.ProcessCall.{ProcessCall}
use Rattle.process_calls.specs.declared.call.ProcessReply.{ProcessReply}
use Rattle.port_calls.specs.declared.call.PortCall.{PortCall}
use Rattle.port_calls.specs.declared.call.PortReply.{PortReply}
use Rattle.gate_rule.specs.History.{of_caller}
use Rattle.managed_run.specs.Kinds.{kind_of}
use Rattle.epoch_gate.specs.Known.{own_entries, caller_number}
use Rattle.session_text.specs.declared.session.RunLine.{RunLine}
use Rattle.session_text.specs.declared.session.SessionParts.{SessionParts}
use Rattle.audit_log.specs.Logs.{of_client}
use Rattle.audit_log.specs.declared.audited.AuditLine.{AuditLine}
use Rattle.audit_queue.specs.Pens.{QueueId, Posted, Taken, HasAll}
use Rattle.audit_queue.specs.declared.knowledge.KeptLines.{KeptLines}
use Rattle.client_acts.specs.declared.worker.Audit.{Audit}
use Rattle.client_script.specs.Scripts.{script_of}
use Rattle.client_script.specs.Clients.{HasRun, standings_of}
use Rattle.client_script.specs.Audits.{audit_of, RiseFrom, own_audit, script_audit}
use Rattle.client_script.proofs.Marks.{script_rises, whole_audit}
use Rattle.run_histories.specs.Audits.{audited, IsLogOf}
use Rattle.thread_run.specs.declared.clients.Slot.{Slot}
use Rattle.thread_run.specs.declared.prepared.Prepared.{Prepared}
use Rattle.thread_run.specs.Workers.{client_of, HasWorked, HasPosted}
use Rattle.thread_run.specs.Runs.{new_pen, slots_of, MayRun, IsPrepared, HaveCalls, with_pens}
use Rattle.thread_run.proofs.Lists.{zip_at, all_at, item_at, mapped_at}
use Rattle.thread_run.proofs.Pens.{kept_pen}
use Rattle.thread_run.proofs.Outcome.{slot_at, ready_slot, ran_whole}

module _ {D : Type 0} (decides : D → Decisions) (prepared : Prepared D) (may : MayRun decides prepared) (queue : QueueId) (audit : Audit) (session : SessionParts) (is : IsPrepared session prepared)
    (rising : RiseFrom 0 session.lines) (slots : List (Slot D))
    (worked : AllZip (λ was now. HasWorked prepared.stations was now × HasPosted audit was now) (slots_of queue 0 prepared.seats.items prepared.scripts.items) slots)
    (whole : list_all (λ (slot : Slot D). is_ok slot.ended) slots ≡ true)
    (files : List (Entry FileCall FileReply)) (processes : List (Entry ProcessCall ProcessReply)) (ports : List (Entry PortCall PortReply)) (calls : HaveCalls slots files processes ports) where
  module _ (client : ℕ) (slot : Slot D) (here : slice_get slots client ≡ Some slot) where
    abbrev before : (was : Slot D) × (slice_get (slots_of queue 0 prepared.seats.items prepared.scripts.items) client ≡ Some was) × (HasWorked prepared.stations was slot × HasPosted audit was slot)
    before = zip_at (λ was now. HasWorked prepared.stations was now × HasPosted audit was now) (slots_of queue 0 prepared.seats.items prepared.scripts.items) slots client slot worked here

    abbrev was : Slot D
    was = before.0

    abbrev at : (slice_get prepared.seats.items client ≡ Some was.seats) × (slice_get prepared.scripts.items client ≡ Some was.lines) × (was.pen ≡ new_pen queue (0 + client))
    at = slot_at queue 0 prepared.seats.items prepared.scripts.items client before.0 before.1

    number : client_of was ≡ client
    number = (ready_slot decides prepared may queue client was before.1).client_is.files

    script : was.lines.items ≡ script_of client session.lines
    script = is.scripts client was.lines at.1

    ended : is_ok slot.ended ≡ true
    ended = all_at (λ (slot : Slot D). is_ok slot.ended ≡ true) slots client slot (AllPass-from_list_all (λ (slot : Slot D). is_ok slot.ended) slots whole) here

    ran : HasRun client (script_of client session.lines) (standings_of slot.seats)
    ran =
        subst (λ (n : ℕ). HasRun n (script_of client session.lines) (standings_of slot.seats)) number
        (subst (λ (l : List RunLine). HasRun (client_of was) l (standings_of slot.seats)) script (ran_whole slot.ended ended before.2.0.ran))

    -- its pen has the client's number, and posted its audit lines
    pub pen_number : slot.pen.number ≡ client
    pen_number = before.2.1.number_is ∙ ap (λ (pen : Posted). pen.number) at.2 ∙ omega arith

    posted : slot.pen.lines ≡ script_audit audit client (script_of client session.lines) (standings_of slot.seats)
    posted =
        ran_whole slot.ended ended before.2.1.lines (subst (RiseFrom 0) (sym script) (script_rises client 0 session.lines rising))
        ∙ (λ i. script_audit audit (number i) (script i) (standings_of slot.seats))

    -- they are those of the histories
    same : audit_of client (script_of client session.lines) (own_audit audit (standings_of slot.seats)) ≡ audit_of client session.lines (audited audit.policy.now audit.contexts.now files processes ports)
    same =
        whole_audit audit client session.lines (standings_of slot.seats) files processes ports rising ran
        (calls.files_are client slot here ∙ ap (λ (n : ℕ). of_caller kind_of n files) (before.2.0.client.files ∙ number))
        (calls.processes_are client slot here ∙ ap (λ (n : ℕ). of_caller kind_of n processes) (before.2.0.client.processes ∙ number))
        (calls.ports_are client slot here ∙ ap (λ (n : ℕ). of_caller kind_of n ports) (before.2.0.client.ports ∙ number))

    pub lines_are : slot.pen.lines ≡ (if audit.printed then audit_of client session.lines (audited audit.policy.now audit.contexts.now files processes ports) else [])
    lines_are = posted ∙ ap (λ (l : List AuditLine). if audit.printed then l else []) same

  -- the log that was drained has them
  pub is_log : (taker : Taken) (log : List (List AuditLine)) → taker.kept ≡ map kept_pen slots → taker.clients ≡ length session.clients → length slots ≡ length session.clients → HasAll taker log
      → IsLogOf audit.policy.now audit.contexts.now files processes ports audit.printed (length session.clients) session.lines log
  is_log taker log kept clients many all = record {
    count = all.clients ∙ clients;
    each = λ client below.
        let one = item_at slots client (subst (λ (n : ℕ). client < n) (sym many) below) in
        let at_kept : get_elem? taker.kept client ≡ some (kept_pen one.0)
        = subst (λ (l : List KeptLines). get_elem? l client ≡ some (kept_pen one.0)) (sym kept) (mapped_at kept_pen slots client one.0 one.1) in
        ap (of_client log) (sym (pen_number client one.0 one.1)) ∙ all.kept client (kept_pen one.0) at_kept ∙ lines_are client one.0 one.1;
  }
