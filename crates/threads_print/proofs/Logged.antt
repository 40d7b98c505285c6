-- What is printed of the log of a run.
use Rattle.std.proofs.Common.{◌≡◌, ◌∙◌, ◌+◌, ◌<◌, ◌≤◌, ℕ, true, List, [], ◌∷◌, ◌++◌, length, refl, sym, ap, arith}
use Rattle.std.specs.Prelude.{Bool, if◌then◌else◌}
use Rattle.std.specs.List.{flat_map}
use Rattle.flask_sid.specs.declared.context.ContextOf.{ContextOf}
use Rattle.access_vectors.specs.Decisions.{Decisions}
use Rattle.manager_history.specs.declared.entry.Entry.{Entry}
use Rattle.file_calls.specs.declared.call.FileCall.{FileCall}
use Rattle.file_calls.specs.declared.call.FileReply.{FileReply}
use Rattle.process_calls.specs.declared.call.ProcessCall.{ProcessCall}
use Rattle.process_calls.specs.declared.call.ProcessReply.{ProcessReply}
use Rattle.port_calls.specs.declared.call.PortCall.{PortCall}
use Rattle.port_calls.specs.declared.call.PortReply.{PortReply}
use Rattle.session_text.specs.declared.session.ClientLine.{ClientLine}
use Rattle.session_text.specs.declared.session.RunLine.{RunLine}
use Rattle.session_text.specs.declared.session.SessionParts.{SessionParts}
use Rattle.audit_log.specs.Logs.{of_client}
use Rattle.audit_log.specs.Texts.{line_text}
use Rattle.audit_log.specs.declared.audited.AuditLine.{AuditLine}
use Rattle.client_script.specs.Audits.{audit_of}
use Rattle.run_histories.specs.Audits.{audited}
use Rattle.run_output.specs.Logged.{logged_text}
use Rattle.run_output.specs.declared.setting.Setting.{Setting}
use Rattle.threads_text.specs.Texts.{audit_text, run_audit}
use Rattle.threads_print.specs.Printing.{IsRunOf}

-- what is printed of a log for clients from number n on
log_text : (contexts : List (ContextOf (List ℕ))) (script : List RunLine) (all : List AuditLine) (count : ℕ) (log : List (List AuditLine)) (n : ℕ) (clients : List ClientLine) → n + length clients ≤ count
    → ((client : ℕ) → client < count → of_client log client ≡ audit_of client script all) → logged_text contexts log n clients ≡ audit_text contexts script all n clients
log_text contexts script all count log n [] within each = refl
log_text contexts script all count log n (client ∷ clients) within each =
    let own = each n (omega (arith, within)) in
    let rest = log_text contexts script all count log (n + 1) clients (omega (arith, within)) each in
    λ i. flat_map (line_text contexts client.name) (own i) ++ rest i

module _ (d : Decisions) (session : SessionParts) (setting : Setting) (files : List (Entry FileCall FileReply)) (processes : List (Entry ProcessCall ProcessReply))
    (ports : List (Entry PortCall PortReply)) (log : List (List AuditLine)) (run : IsRunOf d session setting files processes ports log) where
  -- what is printed of the log of a run whose audit lines are printed
  pub logged_run : setting.audited ≡ true → logged_text setting.contexts.now log 0 setting.clients.now ≡ run_audit files processes ports setting.contexts.now session
  logged_run printed =
      let asked : session.audit ≡ true = sym run.setting_is.audited_is ∙ printed in
      let all = audited session.policy setting.contexts.now files processes ports in
      rw (run.setting_is.clients_are, asked)
      (log_text setting.contexts.now session.lines all (length session.clients) log 0 session.clients (omega arith)
      (λ client below. run.log_is.each client below ∙ ap (λ (b : Bool). if b then audit_of client session.lines all else []) asked))
