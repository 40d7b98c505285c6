-- What `serial` prints: the lines in the text's order, run on the plain managers.
use Rattle.std.specs.Prelude.{ℕ, ◌+◌, Bool, true, false, List, [], ◌∷◌, ◌++◌, Option, Some, None}
use Rattle.std.specs.List.{flat_map}
use Rattle.flask_sid.specs.declared.context.ContextOf.{ContextOf}
use Rattle.access_vectors.specs.Decisions.{Decisions}
use Rattle.access_vectors.specs.declared.asked.Asked.{Asked}
use Rattle.answer_text.specs.Summaries.{summary_words}
use Rattle.audit_log.specs.Audited.{lines_asked}
use Rattle.audit_log.specs.Logs.{lines_by}
use Rattle.audit_log.specs.Texts.{line_text as audit_line_text}
use Rattle.audit_log.specs.declared.audited.AuditLine.{AuditLine}
use Rattle.line_text.specs.Answers.{answer_words}
use Rattle.policy_model.specs.declared.policy.PolicyParts.{PolicyParts}
use Rattle.session_managers.specs.SessionStates.{SessionState}
use Rattle.session_runner.specs.Runs.{Shown, first_state, lines_shown, state_below}
use Rattle.session_runner.specs.declared.outcomes.Caller.{Caller}
use Rattle.session_text.specs.declared.session.ClientLine.{ClientLine}
use Rattle.session_text.specs.declared.session.SessionParts.{SessionParts}
use Rattle.text_print.specs.Printed.{ended}

-- what is printed of a line, where these contexts have identifiers
abbrev pub line_text : List (ContextOf (List ℕ)) → List ClientLine → Shown → List ℕ
line_text contexts clients one = ended (answer_words contexts clients one.line one.answer)

-- what is printed of lines, in the text's order
abbrev pub lines_text : List (ContextOf (List ℕ)) → List ClientLine → List Shown → List ℕ
lines_text contexts clients all = flat_map (line_text contexts clients) all

-- the audit lines of what the caller of a line asked, where they are printed: they are the caller's, whoever was judged
abbrev pub caller_audit : Bool → PolicyParts → List (ContextOf (List ℕ)) → ℕ → Option Caller → List Asked → List AuditLine
caller_audit true policy contexts line (Some caller) asked = lines_asked policy contexts (record { client = caller.client; mark = line; number = caller.number }) asked
caller_audit true policy contexts line None asked = []
caller_audit false policy contexts line caller asked = []

-- the audit lines of a line: none where they are not printed
abbrev pub line_audit : Bool → PolicyParts → List (ContextOf (List ℕ)) → Shown → List AuditLine
line_audit audited policy contexts one = caller_audit audited policy contexts one.line one.caller one.asked

-- the audit lines of lines, in the text's order: none where they are not printed
abbrev pub lines_audit : Bool → PolicyParts → List (ContextOf (List ℕ)) → List Shown → List AuditLine
lines_audit audited policy contexts all = flat_map (line_audit audited policy contexts) all

-- what is printed of audit lines for clients from number n on: for each, in their order, those that are its own
abbrev pub audit_text : List (ContextOf (List ℕ)) → List AuditLine → ℕ → List ClientLine → List ℕ
audit_text contexts lines n [] = []
audit_text contexts lines n (client ∷ clients) = flat_map (audit_line_text contexts client.name) (lines_by n lines) ++ audit_text contexts lines (n + 1) clients

-- the summary of a run that ended so
abbrev pub summary_of : SessionState → List ℕ
summary_of state = ended (summary_words state.calls state.denied state.changes)

-- what a run prints by what is shown of its lines, and by how it ended: its lines' answers, its audit lines where they are printed, and the summary
abbrev pub run_text : Bool → PolicyParts → List (ContextOf (List ℕ)) → List ClientLine → List Shown → SessionState → List ℕ
run_text audited policy contexts clients all state =
    lines_text contexts clients all ++ (audit_text contexts (lines_audit audited policy contexts all) 0 clients ++ summary_of state)

-- what a session prints under these decisions on these contexts
unfoldable pub text_on : List (ContextOf (List ℕ)) → Decisions → SessionParts → List ℕ
text_on contexts d session =
    run_text session.audit session.policy contexts session.clients (lines_shown d (first_state session) session.lines) (state_below d (first_state session) session.lines)

-- the summary of a session alone, under these decisions: what `generate` prints
unfoldable pub summary_on : Decisions → SessionParts → List ℕ
summary_on d session = summary_of (state_below d (first_state session) session.lines)
