-- What a threaded run prints: the three histories, the audit lines, and the summary.
use Rattle.std.specs.Prelude.{◌≡◌, ℕ, ◌+◌, List, [], ◌∷◌, ◌++◌, if◌then◌else◌}
use Rattle.std.specs.List.{flat_map}
use Rattle.flask_sid.specs.declared.context.ContextOf.{ContextOf}
use Rattle.access_vectors.specs.Decisions.{Decisions}
use Rattle.text_print.specs.Printed.{ended}
use Rattle.policy_model.specs.declared.policy.PolicyParts.{PolicyParts}
use Rattle.manager_history.specs.declared.entry.Entry.{Entry}
use Rattle.file_calls.specs.declared.call.FileCall.{FileCall}
use Rattle.file_calls.specs.declared.call.FileReply.{FileReply}
use Rattle.process_calls.specs.declared.call.ProcessCall.{ProcessCall}
use Rattle.process_calls.specs.declared.call.ProcessReply.{ProcessReply}
use Rattle.port_calls.specs.declared.call.PortCall.{PortCall}
use Rattle.port_calls.specs.declared.call.PortReply.{PortReply}
use Rattle.session_forms.specs.declared.run_forms.Manager.TheVariants as manager
use Rattle.session_text.specs.declared.session.ClientLine.{ClientLine}
use Rattle.session_text.specs.declared.session.RunLine.{RunLine}
use Rattle.session_text.specs.declared.session.SessionParts.{SessionParts}
use Rattle.audit_log.specs.Audited.{audited_in}
use Rattle.client_script.specs.Audits.{audit_of}
use Rattle.audit_log.specs.Texts.{line_text}
use Rattle.audit_log.specs.declared.audited.AuditLine.{AuditLine}
use Rattle.answer_text.specs.Summaries as summary
use Rattle.answer_text.specs.Replies.{file_words, process_words, port_words, is_file_denial, is_process_denial, is_port_denial}
use Rattle.history_text.specs.Histories.{history_text}
use Rattle.history_text.specs.Counting.{counts_of}
use Rattle.history_text.specs.declared.counts.Counts.{Counts}
use Rattle.run_histories.specs.Changes.{changes_in}
use Rattle.run_histories.specs.Histories.{AreOfRun}

-- the audit lines of clients from number n on, client by client
abbrev pub audit_text : List (ContextOf (List ℕ)) → List RunLine → List AuditLine → ℕ → List ClientLine → List ℕ
audit_text contexts lines all n [] = []
audit_text contexts lines all n (client ∷ clients) = flat_map (line_text contexts client.name) (audit_of n lines all) ++ audit_text contexts lines all (n + 1) clients

-- the line of a summary
abbrev pub summary_words : Counts → List (List ℕ)
summary_words counts = summary.summary_words counts.calls counts.denied counts.changes

module _ (files : List (Entry FileCall FileReply)) (processes : List (Entry ProcessCall ProcessReply)) (ports : List (Entry PortCall PortReply)) where
  -- what three histories count: the calls in all three, those that were denied, and the policy numbers acknowledged in each
  abbrev pub counts_of_run : Counts
  counts_of_run = record {
    calls = (counts_of is_file_denial files).calls + (counts_of is_process_denial processes).calls + (counts_of is_port_denial ports).calls;
    denied = (counts_of is_file_denial files).denied + (counts_of is_process_denial processes).denied + (counts_of is_port_denial ports).denied;
    changes = changes_in files processes ports;
  }

  -- these are what each of three histories counts
  pub record AreCountsOf (of_files of_processes of_ports : Counts) : Type 0 where
    pub files_are : of_files ≡ counts_of is_file_denial files
    pub processes_are : of_processes ≡ counts_of is_process_denial processes
    pub ports_are : of_ports ≡ counts_of is_port_denial ports

  -- the text of three histories
  abbrev pub histories_text : List (ContextOf (List ℕ)) → List ClientLine → List ℕ
  histories_text contexts clients =
      history_text (file_words contexts) clients manager.File files
      ++ (history_text (process_words contexts) clients manager.Process processes ++ history_text (port_words contexts) clients manager.Port ports)

  -- the audit lines of three histories, where the session has them printed
  abbrev pub run_audit : List (ContextOf (List ℕ)) → SessionParts → List ℕ
  run_audit contexts session =
      if session.audit then audit_text contexts session.lines
      (audited_in session.policy contexts files ++ (audited_in session.policy contexts processes ++ audited_in session.policy contexts ports)) 0 session.clients
      else []

  -- what is printed of three histories of a session
  abbrev pub run_text : List (ContextOf (List ℕ)) → SessionParts → List ℕ
  run_text contexts session = histories_text contexts session.clients ++ (run_audit contexts session ++ ended (summary_words counts_of_run))

-- a text is one that a threaded run of a session prints, under these decisions on these contexts: it is what is printed of three
-- histories of such a run
pub record IsThreadsText (contexts : List (ContextOf (List ℕ))) (d : Decisions) (session : SessionParts) (text : List ℕ) : Type 0 where
  pub files : List (Entry FileCall FileReply)
  pub processes : List (Entry ProcessCall ProcessReply)
  pub ports : List (Entry PortCall PortReply)
  pub of_run : AreOfRun d session files processes ports
  pub text_is : text ≡ run_text files processes ports contexts session
