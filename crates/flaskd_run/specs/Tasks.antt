-- What a command is to do, and the text that it owes. A command more is one constructor of `Task`, one clause of `task_of`, which says
-- what it reads or makes, and one of `IsText`, which says what it prints.
use Rattle.std.specs.Prelude.{◌≡◌, ◌⊎◌, ℕ, Bool, true, false, List, Option, Result, Ok, Err}
use Rattle.flask_io.specs.Streams.{Adds}
use Rattle.flask_sid.specs.declared.context.ContextOf.{ContextOf}
use Rattle.text_lines.specs.ResultSteps.{◌>>=◌, LineFault}
use Rattle.policy_model.specs.declared.policy.PolicyParts.{PolicyParts}
use Rattle.policy_text.specs.Grammar.{policy_of}
use Rattle.policy_versions.specs.Judging.{decisions_of}
use Rattle.flow_query.specs.declared.route.Kind.{Kind}
use Rattle.flow_query.specs.declared.route.Kind.TheVariants as kind
use Rattle.session_text.specs.Reading.{session_of}
use Rattle.session_generator.specs.Generated.{generated}
use Rattle.command_line.specs.declared.command.Command.{Command}
use Rattle.command_line.specs.declared.command.Command.TheVariants as command
use Rattle.command_line.specs.declared.command.PathAsked.{PathAsked}
use Rattle.run_output.specs.Writing.{AddsFront}
use Rattle.serial_run.specs.Serial.{text_on, summary_on}
use Rattle.threads_text.specs.Texts.{IsThreadsText}
use Rattle.flaskd_run.specs.Paths.{IsPathText}
use Rattle.flaskd_run.specs.Learning.{learned_on}
use Rattle.run_output.specs.declared.stop.RunStop.{RunStop}
use Rattle.run_output.specs.declared.stop.RunStop.TheVariants as run_stop
use Rattle.flaskd_run.specs.declared.task.Task.{Task}
use Rattle.flaskd_run.specs.declared.task.Task.TheVariants as task

-- a command reads its input from the source; `generate` alone makes it
abbrev pub reads_input : Command → Bool
reads_input (command.Generate seed clients lines) = false
reads_input other = true

-- the search for a path in the policy that the bytes are, or their first faulty line
abbrev pub path_task : Kind → PathAsked → List ℕ → Result Task LineFault
path_task sought asked bytes = policy_of bytes >>= λ policy. Ok (task.Path policy sought asked)

-- what a command is to do with these bytes, or their first faulty line: `serial`, `threads` and `learn` read a session, `generate` makes one of its
-- numbers, and `flow` and `enter` read a policy alone
abbrev pub task_of : Command → List ℕ → Result Task LineFault
task_of command.Serial bytes = session_of bytes >>= λ session. Ok (task.Serial session)
task_of command.Threads bytes = session_of bytes >>= λ session. Ok (task.Threads session)
task_of (command.Generate seed clients lines) bytes = Ok (task.Summary (generated seed clients lines))
task_of (command.Flow asked) bytes = path_task kind.Flow asked bytes
task_of (command.Enter asked) bytes = path_task kind.Enter asked bytes
task_of (command.Learn version) bytes = session_of bytes >>= λ session. Ok (task.Learn session version)

-- the policy of a task
abbrev pub policy_in : Task → PolicyParts
policy_in (task.Serial session) = session.policy
policy_in (task.Threads session) = session.policy
policy_in (task.Summary session) = session.policy
policy_in (task.Path policy kind asked) = policy
policy_in (task.Learn session version) = session.policy

-- the text that a task owes, where its policy has these contexts: all that a session says, the histories of a threaded run
-- of it, its summary alone, what is found, or what is learned
abbrev pub IsText : Task → List (ContextOf (List ℕ)) → List ℕ → Type 0
IsText (task.Serial session) contexts text = text ≡ text_on contexts (decisions_of session.policy contexts) session
IsText (task.Threads session) contexts text = IsThreadsText contexts (decisions_of session.policy contexts) session text
IsText (task.Summary session) contexts text = text ≡ summary_on (decisions_of session.policy contexts) session
IsText (task.Path policy kind asked) contexts text = IsPathText policy contexts kind asked text
IsText (task.Learn session version) contexts text = text ≡ learned_on version contexts (decisions_of session.policy contexts) session

-- the text of a task was written
pub record WritesAll (task : Task) (contexts : List (ContextOf (List ℕ))) (before now : Option (List ℕ)) : Type 0 where
  pub text : List ℕ
  pub is_text : IsText task contexts text
  pub adds : Adds before now text

-- a front of it was written
pub record WritesFront (task : Task) (contexts : List (ContextOf (List ℕ))) (before now : Option (List ℕ)) : Type 0 where
  pub text : List ℕ
  pub is_text : IsText task contexts text
  pub adds : AddsFront before now text

-- what was written where a task was done, or where it stopped: want of memory may come before there is a text
abbrev pub Writes : {A : Type 0} → Result A RunStop → Task → List (ContextOf (List ℕ)) → Option (List ℕ) → Option (List ℕ) → Type 0
Writes (Ok done) task contexts before now = WritesAll task contexts before now
Writes (Err run_stop.WriteFault) task contexts before now = WritesFront task contexts before now
Writes (Err run_stop.Memory) task contexts before now = (now ≡ before) ⊎ WritesFront task contexts before now
