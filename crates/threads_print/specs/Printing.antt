-- The printing of a threaded run.
use Rattle.std.specs.Prelude.{◌≡◌, ℕ, List, length}
use Rattle.access_vectors.specs.Decisions.{Decisions}
use Rattle.manager_history.specs.declared.entry.Entry.{Entry}
use Rattle.file_calls.specs.declared.call.FileCall.{FileCall}
use Rattle.file_calls.specs.declared.call.FileReply.{FileReply}
use Rattle.process_calls.specs.declared.call.ProcessCall.{ProcessCall}
use Rattle.process_calls.specs.declared.call.ProcessReply.{ProcessReply}
use Rattle.port_calls.specs.declared.call.PortCall.{PortCall}
use Rattle.port_calls.specs.declared.call.PortReply.{PortReply}
use Rattle.session_forms.specs.declared.run_forms.Manager.{Manager}
use Rattle.session_text.specs.declared.session.ClientLine.{ClientLine}
use Rattle.session_text.specs.declared.session.SessionParts.{SessionParts}
use Rattle.text_print.specs.Printed.{ended}
use Rattle.audit_log.specs.declared.audited.AuditLine.{AuditLine}
use Rattle.history_text.specs.Histories.{entry_words}
use Rattle.run_histories.specs.Histories.{AreOfRun}
use Rattle.run_histories.specs.Audits.{IsLogOf}
use Rattle.run_output.specs.declared.setting.Setting.{Setting}

-- the line of an entry
abbrev pub entry_text : {Call Reply : Type 0} → (Reply → List (List ℕ)) → List ClientLine → Manager → Entry Call Reply → List ℕ
entry_text words clients manager entry = ended (entry_words words clients manager entry)

-- this is what is known of a session
pub record IsSettingOf (session : SessionParts) (setting : Setting) : Type 0 where
  pub policy_is : setting.policy.now ≡ session.policy
  pub clients_are : setting.clients.now ≡ session.clients
  pub audited_is : setting.audited ≡ session.audit

-- these are what is known of a session, the histories of a threaded run of it under these decisions, and a log of their audit lines
pub record IsRunOf (d : Decisions) (session : SessionParts) (setting : Setting) (files : List (Entry FileCall FileReply)) (processes : List (Entry ProcessCall ProcessReply))
    (ports : List (Entry PortCall PortReply)) (log : List (List AuditLine)) : Type 0 where
  pub setting_is : IsSettingOf session setting
  pub of_run : AreOfRun d session files processes ports
  pub log_is : IsLogOf session.policy setting.contexts.now files processes ports session.audit (length session.clients) session.lines log
