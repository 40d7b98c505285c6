-- The audit lines of a threaded run.
use Rattle.std.specs.Prelude.{◌≡◌, ℕ, ◌<◌, Bool, List, [], ◌++◌, length, if◌then◌else◌}
use Rattle.flask_sid.specs.declared.context.ContextOf.{ContextOf}
use Rattle.policy_model.specs.declared.policy.PolicyParts.{PolicyParts}
use Rattle.manager_history.specs.declared.entry.Entry.{Entry}
use Rattle.file_calls.specs.declared.call.FileCall.{FileCall}
use Rattle.file_calls.specs.declared.call.FileReply.{FileReply}
use Rattle.process_calls.specs.declared.call.ProcessCall.{ProcessCall}
use Rattle.process_calls.specs.declared.call.ProcessReply.{ProcessReply}
use Rattle.port_calls.specs.declared.call.PortCall.{PortCall}
use Rattle.port_calls.specs.declared.call.PortReply.{PortReply}
use Rattle.session_text.specs.declared.session.RunLine.{RunLine}
use Rattle.audit_log.specs.Audited.{audited_in}
use Rattle.audit_log.specs.Logs.{of_client}
use Rattle.audit_log.specs.declared.audited.AuditLine.{AuditLine}
use Rattle.client_script.specs.Audits.{audit_of}

module _ (policy : PolicyParts) (contexts : List (ContextOf (List ℕ))) (files : List (Entry FileCall FileReply)) (processes : List (Entry ProcessCall ProcessReply)) (ports : List (Entry PortCall PortReply)) where
  -- the audit lines of three histories, one history after another
  abbrev pub audited : List AuditLine
  audited = audited_in policy contexts files ++ (audited_in policy contexts processes ++ audited_in policy contexts ports)

  -- a log has the audit lines of three histories of so many clients, each client's in the order of its script, where audit lines are
  -- printed, and else none
  pub record IsLogOf (printed : Bool) (clients : ℕ) (lines : List RunLine) (log : List (List AuditLine)) : Type 0 where
    pub count : length log ≡ clients
    pub each : (client : ℕ) → client < clients → of_client log client ≡ (if printed then audit_of client lines audited else [])
