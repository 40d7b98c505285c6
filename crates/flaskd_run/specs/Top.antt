-- What the program answers.
use Rattle.std.specs.Prelude.{◌≡◌, ◌≤◌, ◌⊎◌, ℕ, Bool, true, false, ◌&&◌, nat_lt, List, [], length, Option, Some, None, Result, Ok, Err, if◌then◌else◌}
use Rattle.flask_io.specs.Streams.{Takes, Adds}
use Rattle.text_lines.specs.ResultSteps.{LineFault}
use Rattle.policy_model.specs.declared.policy.PolicyParts.{PolicyParts}
use Rattle.policy_versions.specs.Judging.{Judged, TooMany, Broken, Fits, IsJudged}
use Rattle.policy_versions.specs.Places.{kind_at}
use Rattle.policy_versions.specs.declared.compiling.CompileFault.{CompileFault}
use Rattle.policy_versions.specs.declared.compiling.CompileFault.TheVariants.{TooManyContexts, Neverallow, Memory}
use Rattle.policy_versions.specs.declared.broken.Break.{Break}
use Rattle.flaskd_run.specs.Reading.{IsEnd}
use Rattle.run_output.specs.Writing.{AddsFront}
use Rattle.flaskd_run.specs.Tasks.{reads_input, task_of, policy_in, IsText}
use Rattle.command_line.specs.declared.command.Command.{Command}
use Rattle.command_line.specs.declared.command.Command.TheVariants as command
use Rattle.flaskd_run.specs.declared.task.Task.{Task}
use Rattle.flaskd_run.specs.declared.status.Status.{Status}
use Rattle.flaskd_run.specs.declared.status.Status.TheVariants as status

-- the command of the words reads the source
abbrev pub reads_source : Option Command → Bool
reads_source None = false
reads_source (Some asked) = reads_input asked

-- more bytes than an input may have
abbrev pub is_large : List ℕ → Bool
is_large bytes = nat_lt 4194304 (length bytes)

-- the status of a policy of which a version breaks a `neverallow` line: the break, with the names of its types
abbrev pub broken_status : PolicyParts → Break → Status
broken_status policy found = status.Neverallow found.version found.line (kind_at policy found.s) (kind_at policy found.t) found.perm

-- the status of a task, by what its policy comes to. Want of memory may leave that open, and nothing else is answered then
abbrev pub task_status : Task → Option Judged → Status
task_status task None = status.Memory
task_status task (Some TooMany) = status.TooManyContexts
task_status task (Some (Broken found)) = broken_status (policy_in task) found
task_status task (Some (Fits contexts)) = status.Ok

-- the status of what was read, if nothing fails
abbrev pub status_of : Result Task LineFault → Option Judged → Status
status_of (Ok task) judged = task_status task judged
status_of (Err fault) judged = status.BadText fault.line fault.kind

-- what a task prints: nothing where its policy is refused, or nothing is told of it
abbrev pub IsTaskText : Task → Option Judged → List ℕ → Type 0
IsTaskText task (Some (Fits contexts)) text = IsText task contexts text
IsTaskText task judged text = text ≡ []

-- what is printed of what was read
abbrev pub IsPrinted : Result Task LineFault → Option Judged → List ℕ → Type 0
IsPrinted (Ok task) judged text = IsTaskText task judged text
IsPrinted (Err fault) judged text = text ≡ []

-- the policy of a task, where there is one and what its policy comes to is told, comes to that
abbrev pub IsJudgedOf : Result Task LineFault → Option Judged → Type 0
IsJudgedOf (Ok task) (Some judged) = IsJudged (policy_in task) judged
IsJudgedOf read judged = Unit {0}

-- the same, by the words; where they are no command there is no task
abbrev pub IsJudgedFor : Option Command → List ℕ → Option Judged → Type 0
IsJudgedFor None bytes judged = Unit {0}
IsJudgedFor (Some asked) bytes judged = IsJudgedOf (task_of asked bytes) judged

-- the input of a command that reads it is too large
abbrev pub is_too_large : Command → List ℕ → Bool
is_too_large asked bytes = reads_input asked && is_large bytes

-- the status of what is asked on input of these bytes, in the order of the tests
unfoldable pub expected_of : Option Command → List ℕ → Option Judged → Status
expected_of None bytes judged = status.Usage
expected_of (Some asked) bytes judged = if is_too_large asked bytes then status.TooLarge else status_of (task_of asked bytes) judged

-- what is printed of what was read, but nothing where it is too large
abbrev pub IsPrintedUnless : Bool → Result Task LineFault → Option Judged → List ℕ → Type 0
IsPrintedUnless true read judged text = text ≡ []
IsPrintedUnless false read judged text = IsPrinted read judged text

-- what is printed of what is asked: nothing where the input is refused
abbrev pub IsAnswerOf : Option Command → List ℕ → Option Judged → List ℕ → Type 0
IsAnswerOf None bytes judged text = text ≡ []
IsAnswerOf (Some asked) bytes judged text = IsPrintedUnless (is_too_large asked bytes) (task_of asked bytes) judged text

-- a status where this one is expected: a fault of the source or want of memory may take its place, and a fault of the sink
-- that of Ok alone
abbrev pub Answers : Status → Status → Type 0
Answers status.ReadFault expected = Unit {0}
Answers status.Memory expected = Unit {0}
Answers status.WriteFault expected = expected ≡ status.Ok
Answers answer expected = expected ≡ answer

-- a command that reads the source read it to its end, where the status says something of the whole input
abbrev pub IsWhole : Bool → Status → Option (List ℕ) → Type 0
IsWhole false answer left = Unit {0}
IsWhole true status.Ok left = IsEnd left
IsWhole true (status.BadText line kind) left = IsEnd left
IsWhole true status.TooManyContexts left = IsEnd left
IsWhole true (status.Neverallow version line s t perm) left = IsEnd left
IsWhole true status.WriteFault left = IsEnd left
IsWhole true answer left = Unit {0}

-- the input that a command reads was read to its end
abbrev pub IsRead : Bool → Option (List ℕ) → Type 0
IsRead false left = Unit {0}
IsRead true left = IsEnd left

-- Ok wrote the whole text, a fault of the sink a front of it, and every other status nothing; but want of memory comes also
-- once all input was read, and then a front of the text was written
abbrev pub Puts : Bool → Status → Option (List ℕ) → Option (List ℕ) → Option (List ℕ) → List ℕ → Type 0
Puts reads status.Ok left before now text = Adds before now text
Puts reads status.WriteFault left before now text = AddsFront before now text
Puts reads status.Memory left before now text = (now ≡ before) ⊎ (IsRead reads left × AddsFront before now text)
Puts reads answer left before now text = now ≡ before

-- how a run goes: it took at most one byte past the limit from the source, and of the bytes that it took and of what the
-- policy that is read or made comes to, status and text are as stated
pub record Ran (status : Status) (asked : Option Command) (left_before left_after put_before put_after : Option (List ℕ)) : Type 0 where
  pub taken : List ℕ
  pub takes : Takes left_before left_after taken
  pub bounded : length taken ≤ 4194305
  pub judged : Option Judged
  pub is_judged : IsJudgedFor asked taken judged
  pub answers : Answers status (expected_of asked taken judged)
  pub whole : IsWhole (reads_source asked) status left_after
  pub text : List ℕ
  pub is_text : IsAnswerOf asked taken judged text
  pub puts : Puts (reads_source asked) status left_after put_before put_after text

-- the exit code of a status
abbrev pub code_of : Status → ℕ
code_of status.Ok = 0
code_of status.Usage = 2
code_of (status.BadText line kind) = 3
code_of (status.Neverallow version line s t perm) = 3
code_of status.TooManyContexts = 3
code_of status.ReadFault = 4
code_of status.WriteFault = 5
code_of status.TooLarge = 6
code_of status.Memory = 7

-- nothing goes out with this status
abbrev pub IsSilent : Status → Type 0
IsSilent status.Usage = Unit {0}
IsSilent (status.BadText line kind) = Unit {0}
IsSilent status.TooManyContexts = Unit {0}
IsSilent (status.Neverallow version line s t perm) = Unit {0}
IsSilent status.ReadFault = Unit {0}
IsSilent status.TooLarge = Unit {0}
IsSilent answer = ⊥

-- what was written of a task, whose input was read whole, or made
abbrev pub PutsWhole : Status → Option (List ℕ) → Option (List ℕ) → List ℕ → Type 0
PutsWhole status.Ok before now text = Adds before now text
PutsWhole status.WriteFault before now text = AddsFront before now text
PutsWhole status.Memory before now text = AddsFront before now text
PutsWhole answer before now text = now ≡ before

-- a status of a task, whose input was read whole, or made
abbrev pub Serves : Status → Status → Type 0
Serves status.Memory expected = Unit {0}
Serves status.WriteFault expected = expected ≡ status.Ok
Serves status.ReadFault expected = ⊥
Serves answer expected = expected ≡ answer

-- the status of a policy that is not compiled; want of memory may take the place of a broken line
abbrev pub IsRefused : PolicyParts → CompileFault → Status → Type 0
IsRefused policy TooManyContexts answer = answer ≡ status.TooManyContexts
IsRefused policy (Neverallow version line s t perm) answer =
    (answer ≡ status.Memory) ⊎ (answer ≡ broken_status policy (record { version = version; line = line; s = s; t = t; perm = perm }))
IsRefused policy Memory answer = answer ≡ status.Memory

-- how what was read whole, or made, is served: status and text are as stated, by it and by what its policy comes to
pub record Served (status : Status) (read : Result Task LineFault) (before after : Option (List ℕ)) : Type 0 where
  pub judged : Option Judged
  pub is_judged : IsJudgedOf read judged
  pub answers : Serves status (status_of read judged)
  pub text : List ℕ
  pub is_text : IsPrinted read judged text
  pub puts : PutsWhole status before after text

-- how a session that was made ends: well, or the sink failed, or memory was wanting. It is never refused
abbrev pub IsEndOfMade : Status → Type 0
IsEndOfMade status.Ok = Unit {0}
IsEndOfMade status.WriteFault = Unit {0}
IsEndOfMade status.Memory = Unit {0}
IsEndOfMade answer = ⊥

-- a command that makes its session ends so
abbrev pub EndsMade : Option Command → Status → Type 0
EndsMade (Some (command.Generate seed clients lines)) answer = IsEndOfMade answer
EndsMade other answer = Unit {0}
