-- What a session prints, by what was logged.
use Rattle.std.proofs.Common.{◌≡◌, ◌∙◌, ◌+◌, ℕ, zero, suc, Bool, List, [], ◌∷◌, ◌++◌, Option, length, refl, sym, ap}
use Rattle.std.specs.List.{flat_map}
use Rattle.std.specs.Prelude.{replicate}
use Rattle.flask_sid.specs.declared.context.ContextOf.{ContextOf}
use Rattle.access_vectors.specs.Decisions.{Decisions}
use Rattle.audit_log.specs.Logs.{of_client, lines_by, Gains}
use Rattle.audit_log.specs.declared.audited.AuditLine.{AuditLine}
use Rattle.policy_model.specs.declared.policy.PolicyParts.{PolicyParts}
use Rattle.answer_text.specs.Summaries.{summary_words}
use Rattle.run_output.specs.Logged.{logged_text}
use Rattle.run_output.specs.Writing.{AddsFront}
use Rattle.run_output.specs.declared.setting.Setting.{Setting}
use Rattle.run_output.proofs.PartLemmas.{cut_first}
use Rattle.session_managers.specs.SessionStates.{SessionState}
use Rattle.session_runner.specs.Runs.{Shown, first_state, lines_shown, state_below}
use Rattle.session_text.specs.declared.session.ClientLine.{ClientLine}
use Rattle.session_text.specs.declared.session.SessionParts.{SessionParts}
use Rattle.text_print.specs.Printed.{ended}
use Rattle.serial_run.specs.Printing.{text_in, audit_in}
use Rattle.serial_run.specs.Serial.{lines_text, lines_audit, audit_text, summary_of, run_text, text_on, summary_on}

-- a client of an empty log has no line
none_yet : (count client : ℕ) → of_client (replicate count []) client ≡ []
none_yet zero client = refl
none_yet (suc count) zero = refl
none_yet (suc count) (suc client) = none_yet count client

-- what is printed of a log that gained lines from nothing is what is printed of the lines
logged_as : (contexts : List (ContextOf (List ℕ))) (count : ℕ) (log : List (List AuditLine)) (lines : List AuditLine) (n : ℕ) (clients : List ClientLine)
    → Gains (replicate count []) log lines → logged_text contexts log n clients ≡ audit_text contexts lines n clients
logged_as contexts count log lines n [] gains = refl
logged_as contexts count log lines n (client ∷ clients) gains =
    let own : of_client log n ≡ lines_by n lines = gains.each n ∙ ap (λ before. before ++ lines_by n lines) (none_yet count n) in
    rw (own, logged_as contexts count log lines (n + 1) clients gains) refl

-- what a session prints, by what its run knows of it, and by the log that it kept
pub text_as : (session : SessionParts) (d : Decisions) (contexts contexts' : List (ContextOf (List ℕ))) (policy : PolicyParts) (clients : List ClientLine) (audited : Bool) (all : List Shown) (state : SessionState) (count : ℕ) (old log : List (List AuditLine))
    → policy ≡ session.policy → contexts' ≡ contexts → clients ≡ session.clients → audited ≡ session.audit
    → all ≡ lines_shown d (first_state session) session.lines → state ≡ state_below d (first_state session) session.lines
    → old ≡ replicate count [] → Gains old log (lines_audit audited policy contexts' all)
    → text_on contexts d session ≡ lines_text contexts' clients all ++ (logged_text contexts' log 0 clients ++ summary_of state)
unfolding text_on
text_as session d contexts contexts' policy clients audited all state count old log policy_is contexts_is clients_is audited_is all_is state_is old_is gains =
    let printed = logged_as contexts' count log (lines_audit audited policy contexts' all) 0 clients (rw old_is at gains) in
    let same : run_text audited policy contexts' clients all state ≡ run_text session.audit session.policy contexts session.clients (lines_shown d (first_state session) session.lines) (state_below d (first_state session) session.lines)
    = rw (policy_is, contexts_is, clients_is, audited_is, all_is, state_is) refl in
    sym same ∙ rw printed refl

-- a run knows of its session what the session has, and its identifiers stand for these contexts
pub record IsSetting (session : SessionParts) (contexts : List (ContextOf (List ℕ))) (setting : Setting) : Type 0 where
  pub policy_is : setting.policy.now ≡ session.policy
  pub contexts_are : setting.contexts.now ≡ contexts
  pub clients_are : setting.clients.now ≡ session.clients
  pub audited_is : setting.audited ≡ session.audit

-- the texts of its lines come first
pub lines_front : (session : SessionParts) (d : Decisions) (contexts : List (ContextOf (List ℕ))) (setting : Setting) (all : List Shown) (before now : Option (List ℕ)) → IsSetting session contexts setting → all ≡ lines_shown d (first_state session) session.lines
    → AddsFront before now (flat_map (text_in setting) all) → AddsFront before now (text_on contexts d session)
unfolding text_on
lines_front session d contexts setting all before now is all_is front =
    cut_first before now (lines_text contexts session.clients (lines_shown d (first_state session) session.lines)) _ (rw (is.contexts_are, is.clients_are, all_is) at front)

-- what it prints in all, where its log was empty before the first line
pub whole_text : (session : SessionParts) (d : Decisions) (contexts : List (ContextOf (List ℕ))) (setting later : Setting) (all : List Shown) (state : SessionState) (old log : List (List AuditLine)) (calls denied changes : ℕ)
    → IsSetting session contexts setting → all ≡ lines_shown d (first_state session) session.lines → state ≡ state_below d (first_state session) session.lines
    → old ≡ replicate (length setting.clients.now) [] → Gains old log (flat_map (audit_in setting) all) → later ≡ setting → calls ≡ state.calls → denied ≡ state.denied → changes ≡ state.changes
    → text_on contexts d session ≡ flat_map (text_in setting) all ++ (logged_text later.contexts.now log 0 later.clients.now ++ ended (summary_words calls denied changes))
whole_text session d contexts setting later all state old log calls denied changes is all_is state_is old_is gains later_is calls_are denied_are changes_are =
    rw (later_is, calls_are, denied_are, changes_are)
    (text_as session d contexts setting.contexts.now setting.policy.now setting.clients.now setting.audited all state (length setting.clients.now) old log is.policy_is is.contexts_are is.clients_are is.audited_is all_is state_is old_is gains)

-- the summary of a run is the session's
pub summary_is : (session : SessionParts) (d : Decisions) (state : SessionState) (calls denied changes : ℕ) → state ≡ state_below d (first_state session) session.lines → calls ≡ state.calls → denied ≡ state.denied → changes ≡ state.changes
    → ended (summary_words calls denied changes) ≡ summary_on d session
unfolding summary_on
summary_is session d state calls denied changes state_is calls_are denied_are changes_are = rw (calls_are, denied_are, changes_are, state_is) refl
