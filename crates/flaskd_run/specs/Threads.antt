-- What is left of a session that was run in threads, and what is printed of it.
use Rattle.std.specs.Prelude.{◌≡◌, ℕ, List, length}
use Rattle.flask_sid.specs.declared.context.ContextOf.{ContextOf}
use Rattle.access_vectors.specs.Decisions.{Decisions}
use Rattle.session_text.specs.declared.session.SessionParts.{SessionParts}
use Rattle.run_histories.specs.Histories.{AreOfRun}
use Rattle.run_histories.specs.Audits.{IsLogOf}
use Rattle.threads_text.specs.Texts.{run_text}
use Rattle.flaskd_run.specs.declared.threads.Ended.{Ended}

-- a session was run under these decisions: its print is known, and the histories are those of a threaded run of it
pub record HasEnded {D : Type 0} (d : Decisions) (session : SessionParts) (ended : Ended D) : Type 0 where
  pub policy_is : ended.policy ≡ session.policy
  pub clients_are : ended.clients ≡ session.clients
  pub audit_is : ended.audit ≡ session.audit
  pub of_run : AreOfRun d session ended.closed.files.history ended.closed.processes.history ended.closed.ports.history

-- its log has the audit lines of its histories, by these contexts of its policy's identifiers
abbrev pub IsLogged : {D : Type 0} → List (ContextOf (List ℕ)) → SessionParts → Ended D → Type 0
IsLogged contexts session ended =
    IsLogOf session.policy contexts ended.closed.files.history ended.closed.processes.history ended.closed.ports.history session.audit (length session.clients) session.lines ended.log

-- what is printed of it
abbrev pub text_of : {D : Type 0} → List (ContextOf (List ℕ)) → SessionParts → Ended D → List ℕ
text_of contexts session ended = run_text ended.closed.files.history ended.closed.processes.history ended.closed.ports.history contexts session
