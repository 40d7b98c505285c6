-- What each line of a session comes to: the lines in the text's order, run on the plain managers.
use Rattle.std.specs.Prelude.{ℕ, ◌+◌, List, [], ◌∷◌, map, Option, Some, None, Result, Ok, Err}
use Rattle.access_vectors.specs.Decisions.{Decisions}
use Rattle.access_vectors.specs.Phases.{number_of}
use Rattle.access_vectors.specs.declared.asked.Asked.{Asked}
use Rattle.access_vectors.specs.declared.change.NotifyFault.{NotifyFault}
use Rattle.change_protocol.specs.Changes.{for_all}
use Rattle.change_protocol.specs.declared.answers.NotifyAllFault.{NotifyAllFault}
use Rattle.session_forms.specs.declared.run_forms.Manager.{Manager}
use Rattle.session_forms.specs.declared.run_forms.Manager.TheVariants as manager
use Rattle.session_managers.specs.SessionStates.{SessionState, opening_state, manager_of, told_to, acting_on, version_on, state_called, state_begun, state_ended, refusal_of, state_notified, state_updated, left_on, ack_all_of, all_said, state_acknowledged, force_all_of, all_forced, state_forced}
use Rattle.session_managers.specs.SessionViews.{LastTold, told_of}
use Rattle.manager_history.specs.declared.answers.Answer.{Answer}
use Rattle.session_managers.specs.One.{got_answer}
use Rattle.session_managers.specs.declared.acting.Reply.{Reply}
use Rattle.session_managers.specs.declared.acting.Call.{Call}
use Rattle.session_managers.specs.declared.acting.Call.TheVariants as call
use Rattle.session_managers.specs.declared.opening.Openings.{Openings}
use Rattle.session_text.specs.declared.session.ClientLine.{ClientLine}
use Rattle.session_text.specs.declared.session.Run.{Run}
use Rattle.session_text.specs.declared.session.Run.TheVariants as run
use Rattle.session_text.specs.declared.session.RunLine.{RunLine}
use Rattle.session_text.specs.declared.session.SessionParts.{SessionParts}
use Rattle.session_runner.specs.declared.opening.FirstObjects.{FirstObjects}
use Rattle.session_runner.specs.declared.outcomes.Called.{Called}
use Rattle.session_runner.specs.declared.outcomes.Caller.{Caller}
use Rattle.session_runner.specs.declared.outcomes.LineAnswer.{LineAnswer}
use Rattle.session_runner.specs.declared.outcomes.LineAnswer.TheVariants as answer

-- what the managers are opened with: a client acts as its context, and the root and ports without a line have theirs
abbrev pub openings_with : FirstObjects → List ClientLine → Openings
openings_with first clients = record {
  files = record { clients = map (λ client. client.sid) clients; root = first.root; nodes = first.nodes };
  processes = record { clients = map (λ client. client.sid) clients };
  ports = record { clients = map (λ client. client.sid) clients; initial = first.port; ports = first.ports };
}

abbrev pub openings_of : SessionParts → Openings
openings_of session = openings_with (record { root = session.root; nodes = session.nodes; port = session.port; ports = session.ports }) session.clients

-- before the first line of a session
abbrev pub first_state : SessionParts → SessionState
first_state session = opening_state (openings_of session)

-- after a line
abbrev pub state_after : Decisions → SessionState → Run → SessionState
state_after d state (run.File client asks) = state_called d state client (call.File asks)
state_after d state (run.Process client asks) = state_called d state client (call.Process asks)
state_after d state (run.Port client asks) = state_called d state client (call.Port asks)
state_after d state (run.Begin client of) = state_begun state client of
state_after d state (run.End client of) = state_ended state client of
state_after d state (run.Notify version) = state_notified state version (refusal_of d state version)
state_after d state (run.Update most) = state_updated d state most
state_after d state run.Ack = state_acknowledged d state
state_after d state run.Force = state_forced d state

-- after lines
abbrev pub state_below : Decisions → SessionState → List RunLine → SessionState
state_below d state [] = state
state_below d state (line ∷ lines) = state_below d (state_after d state line.run) lines

-- what a client's call comes to
abbrev pub replied : Decisions → SessionState → ℕ → Call → LineAnswer
replied d state client asks = answer.Replied client (manager_of asks) (acting_on state client (manager_of asks)) (told_to d state client asks).answer

-- what the choice of a version gets: its number, or why it is refused
abbrev pub notice_answer : Option NotifyFault → ℕ → Result ℕ NotifyAllFault
notice_answer None next = Ok next
notice_answer (Some fault) next = Err (for_all fault)

-- what a line comes to
abbrev pub answer_on : Decisions → SessionState → Run → LineAnswer
answer_on d state (run.File client asks) = replied d state client (call.File asks)
answer_on d state (run.Process client asks) = replied d state client (call.Process asks)
answer_on d state (run.Port client asks) = replied d state client (call.Port asks)
answer_on d state (run.Begin client of) = answer.Begun client of (acting_on state client of)
answer_on d state (run.End client of) = answer.Ended client of (acting_on state client of)
answer_on d state (run.Notify version) = answer.Notified (notice_answer (refusal_of d state version) (number_of state.files.phase + 1))
answer_on d state (run.Update most) = answer.Updated (left_on d state most)
answer_on d state run.Ack = answer.Acknowledged (record { all = ack_all_of d state; said = all_said d state })
answer_on d state run.Force = answer.Acknowledged (record { all = force_all_of d state; said = all_forced d state })

-- what the call of a line asks; the other lines ask nothing
abbrev pub asked_by : Decisions → SessionState → Run → List Asked
asked_by d state (run.File client asks) = (told_to d state client (call.File asks)).asked
asked_by d state (run.Process client asks) = (told_to d state client (call.Process asks)).asked
asked_by d state (run.Port client asks) = (told_to d state client (call.Port asks)).asked
asked_by d state asks = []

-- a client on a manager: the policy number under which it acts, and the version of that number, where no forced acknowledgement aborts its calls
abbrev pub caller_at : SessionState → ℕ → Manager → Caller
caller_at state client of = record { client = client; manager = of; number = acting_on state client of; version = version_on state client of }

-- who acts in the call of a line; the other lines are no call
abbrev pub caller_of : SessionState → Run → Option Caller
caller_of state (run.File client asks) = Some (caller_at state client manager.File)
caller_of state (run.Process client asks) = Some (caller_at state client manager.Process)
caller_of state (run.Port client asks) = Some (caller_at state client manager.Port)
caller_of state asks = None

-- what is shown of a line: its number, what it comes to, who acts in it where it is a client's call, and what it asks
pub record Shown : Type 0 where
  pub line : ℕ
  pub answer : LineAnswer
  pub caller : Option Caller
  pub asked : List Asked

abbrev pub line_shown : Decisions → SessionState → RunLine → Shown
line_shown d state line = record { line = line.line; answer = answer_on d state line.run; caller = caller_of state line.run; asked = asked_by d state line.run }

-- what is shown of a caller's call, by what it got and asked
abbrev pub shown_told : ℕ → Caller → Answer Reply → List Asked → Shown
shown_told line caller got asked = record { line = line; answer = answer.Replied caller.client caller.manager caller.number got; caller = Some caller; asked = asked }

-- where that is lent
abbrev pub shown_call : Called → Shown
shown_call called = shown_told called.line called.caller (got_answer called.got) called.asked.now

-- where it is what the newest entry of the caller's manager tells
abbrev pub shown_newest : LastTold → ℕ → Caller → Shown
shown_newest told line caller = shown_told line caller (told_of told caller.manager).answer (told_of told caller.manager).asked

-- what is shown of a line that is no call
abbrev pub shown_other : ℕ → LineAnswer → Shown
shown_other line said = record { line = line; answer = said; caller = None; asked = [] }

-- what is shown of lines, from there on: of each after those above it
abbrev pub lines_shown : Decisions → SessionState → List RunLine → List Shown
lines_shown d state [] = []
lines_shown d state (line ∷ lines) = line_shown d state line ∷ lines_shown d (state_after d state line.run) lines
