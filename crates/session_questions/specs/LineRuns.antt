-- What each line of a session comes to, and what its call asks, as it is kept.
use Rattle.std.specs.Prelude.{List, map, Option, Some, None}
use Rattle.access_vectors.specs.Decisions.{Decisions}
use Rattle.access_vectors.specs.declared.asked.Asked.{Asked}
use Rattle.session_managers.specs.SessionStates.{SessionState}
use Rattle.session_runner.specs.Runs.{Shown, lines_shown, first_state}
use Rattle.session_runner.specs.declared.outcomes.Caller.{Caller}
use Rattle.session_text.specs.declared.session.RunLine.{RunLine}
use Rattle.session_text.specs.declared.session.SessionParts.{SessionParts}
use Rattle.session_questions.specs.declared.lines.LineQuestions.{LineQuestions}
use Rattle.session_questions.specs.declared.lines.LineRun.{LineRun}
use Rattle.session_questions.specs.declared.running.SessionRun.{SessionRun}

-- the questions of a call are those of its caller under the version in which it acts; another line asks nothing
abbrev pub questions_of : Option Caller → List Asked → Option LineQuestions
questions_of None asked = None
questions_of (Some caller) asked = Some (record { version = caller.version; asked = asked })

-- what is kept of a line
abbrev pub run_of : Shown → LineRun
run_of one = record { line = one.line; answer = one.answer; questions = questions_of one.caller one.asked }

-- what lines come to, from there on: each after those above it
abbrev pub lines_run : Decisions → SessionState → List RunLine → List LineRun
lines_run d state lines = map run_of (lines_shown d state lines)

-- what each line of a session comes to, with the session's policy and clients
abbrev pub session_run : Decisions → SessionParts → SessionRun
session_run d session = record { policy = session.policy; clients = session.clients; lines = lines_run d (first_state session) session.lines }
