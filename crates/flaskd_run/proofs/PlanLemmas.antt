-- The plan of a threaded run, and the log of its audit lines.
use Rattle.std.proofs.Common.{◌≡◌, ◌+◌, ◌<◌, ◌≤◌, ℕ, List, [], ◌∷◌, ◌++◌, length, All, Some, IsTrue, refl, ap, subst, sym, ◌∙◌, arith}
use Rattle.std.proofs.lemmas.List.Elements.{All-pop}
use Rattle.std.specs.Prelude.{◌^◌}
use Rattle.std.proofs.lemmas.List.{length-map}
use Rattle.flask_sid.specs.declared.context.ContextOf.{ContextOf}
use Rattle.access_vectors.specs.Decisions.{Decisions}
use Rattle.audit_log.specs.declared.audited.AuditLine.{AuditLine}
use Rattle.policy_model.specs.declared.policy.PolicyParts.{PolicyParts}
use Rattle.policy_model.specs.Kept.{Grows}
use Rattle.manager_history.specs.declared.entry.Entry.{Entry}
use Rattle.file_calls.specs.declared.call.FileCall.{FileCall}
use Rattle.file_calls.specs.declared.call.FileReply.{FileReply}
use Rattle.process_calls.specs.declared.call.ProcessCall.{ProcessCall}
use Rattle.process_calls.specs.declared.call.ProcessReply.{ProcessReply}
use Rattle.port_calls.specs.declared.call.PortCall.{PortCall}
use Rattle.port_calls.specs.declared.call.PortReply.{PortReply}
use Rattle.client_script.specs.Audits.{RiseFrom}
use Rattle.run_histories.specs.Audits.{IsLogOf}
use Rattle.session_text.specs.Sessions.{IsSession, IsSidOf, MayLine}
use Rattle.session_text.proofs.SessionLemmas.{few_clients, few_lines}
use Rattle.session_text.specs.declared.session.ClientLine.{ClientLine}
use Rattle.session_text.specs.declared.session.RunLine.{RunLine}
use Rattle.session_text.specs.declared.session.SessionParts.{SessionParts}
use Rattle.session_managers.specs.SessionViews.{AreOpenings}
use Rattle.session_managers.specs.declared.opening.Openings.{Openings}
use Rattle.session_runner.specs.Runs.{openings_of}
use Rattle.session_runner.proofs.OpeningLemmas.{session_may}
use Rattle.threaded_session.specs.Plans as plans
use Rattle.threaded_session.specs.Plans.{IsPlanOf}
use Rattle.threaded_session.specs.declared.plan.Plan.{Plan}

-- a plan of a session's parts may be run
pub plan_may : (d : Decisions) (session : SessionParts) (plan : Plan) → plan.openings ≡ openings_of session → plan.clients ≡ length session.clients → plan.lines.items ≡ session.lines
    → IsSession session → AreOpenings d (openings_of session) → length session.lines < 2 ^ 64 → ((sid : ℕ) → IsSidOf session.policy.contexts sid → IsTrue (d.known sid)) → plans.MayRun d plan
plan_may d session plan openings_is clients_is lines_is is openings few known = record {
  openings = rw openings_is openings;
  of_files = ap (λ (o : Openings). length o.files.clients) openings_is ∙ length-map session.clients (λ (client : ClientLine). client.sid) ∙ sym clients_is;
  of_processes = ap (λ (o : Openings). length o.processes.clients) openings_is ∙ length-map session.clients (λ (client : ClientLine). client.sid) ∙ sym clients_is;
  of_ports = ap (λ (o : Openings). length o.ports.clients) openings_is ∙ length-map session.clients (λ (client : ClientLine). client.sid) ∙ sym clients_is;
  few = rw clients_is (few_clients session is);
  few_lines = rw lines_is (few_lines session is);
  formed = rw (clients_is, lines_is) (session_may session d is few known).formed;
}

-- it is the plan of the session
pub plan_of : (session : SessionParts) (plan : Plan) → plan.openings ≡ openings_of session → plan.clients ≡ length session.clients → plan.lines.items ≡ session.lines → IsPlanOf session plan
plan_of session plan openings_is clients_is lines_is = record {
  files_are = ap (λ (o : Openings). o.files) openings_is;
  processes_are = ap (λ (o : Openings). o.processes) openings_is;
  ports_are = ap (λ (o : Openings). o.ports) openings_is;
  clients_are = clients_is;
  lines_are = lines_is;
}

-- the numbers of a session's lines rise
rising_from : (May : List RunLine → RunLine → Type 0) → ((seen : List RunLine) (line : RunLine) → May seen line → All (λ (above : RunLine). above.line < line.line) seen)
    → (least : ℕ) (seen lines : List RunLine) → ((line : RunLine) → All (λ (above : RunLine). above.line < line.line) seen → least ≤ line.line) → Grows May seen lines → RiseFrom least lines
rising_from May below least seen [] past grows = tt
rising_from May below least seen (line ∷ lines) past grows = (
  past line (below seen line grows.0),
  rising_from May below (line.line + 1) (seen ++ line ∷ [])
      lines
      (λ next all. let last = (All-pop (λ (above : RunLine). above.line < next.line) (seen ++ line ∷ []) seen (Some line) refl all).1 in omega (arith, last)) grows.1,
)

pub session_rises : (session : SessionParts) → IsSession session → RiseFrom 0 session.lines
session_rises session is =
    rising_from (MayLine session.policy.contexts session.clients) (λ seen line may. may.below) 0 [] session.lines (λ line all. omega arith) is.lines

-- a log of the audit lines by a policy that is the session's, whether they are printed or not
pub log_by : (session : SessionParts) (policy : PolicyParts) (contexts : List (ContextOf (List ℕ))) (files : List (Entry FileCall FileReply)) (processes : List (Entry ProcessCall ProcessReply))
    (ports : List (Entry PortCall PortReply)) (log : List (List AuditLine)) → policy ≡ session.policy → IsLogOf policy contexts files processes ports session.audit (length session.clients) session.lines log
    → IsLogOf session.policy contexts files processes ports session.audit (length session.clients) session.lines log
log_by session policy contexts files processes ports log same is =
    subst (λ (p : PolicyParts). IsLogOf p contexts files processes ports session.audit (length session.clients) session.lines log) same is
