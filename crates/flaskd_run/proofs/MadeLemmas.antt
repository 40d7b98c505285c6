-- A session that is made of three numbers is never refused.
use Rattle.std.proofs.Common.{◌≡◌, ◌⊎◌, ℕ, true, false, true≢false, List, Option, Some, None, Ok, refl, sym, ◌∙◌, inl, inr}
use Rattle.flask_sid.specs.declared.context.ContextOf.{ContextOf}
use Rattle.policy_versions.specs.Judging.{Judged, Fits}
use Rattle.command_line.specs.declared.command.Command.{Command}
use Rattle.command_line.specs.declared.command.Command.TheVariants as command
use Rattle.session_generator.specs.Generated.{generated}
use Rattle.flaskd_run.specs.Tasks.{reads_input, task_of}
use Rattle.flaskd_run.specs.Top.{task_status, status_of, IsJudgedOf, Serves, Served, IsEndOfMade, EndsMade}
use Rattle.flaskd_run.specs.declared.status.Status.{Status}
use Rattle.flaskd_run.specs.declared.status.Status.TheVariants as status
use Rattle.flaskd_run.specs.declared.task.Task.{Task}
use Rattle.flaskd_run.specs.declared.task.Task.TheVariants as task
use Rattle.flaskd_run.proofs.MadePolicy.{fits}

-- where Ok or want of memory is expected, nothing is refused
none_refused : (said expected : Status) → Serves said expected → (expected ≡ status.Ok) ⊎ (expected ≡ status.Memory) → IsEndOfMade said
none_refused status.Ok expected serves may = tt
none_refused status.Memory expected serves may = tt
none_refused status.WriteFault expected serves may = tt
none_refused status.ReadFault expected serves may = serves
none_refused status.Usage expected serves (inl ok) = let same : status.Usage ≡ status.Ok = sym serves ∙ ok in cc
none_refused status.Usage expected serves (inr memory) = let same : status.Usage ≡ status.Memory = sym serves ∙ memory in cc
none_refused (status.BadText line kind) expected serves (inl ok) = let same : status.BadText line kind ≡ status.Ok = sym serves ∙ ok in cc
none_refused (status.BadText line kind) expected serves (inr memory) = let same : status.BadText line kind ≡ status.Memory = sym serves ∙ memory in cc
none_refused status.TooManyContexts expected serves (inl ok) = let same : status.TooManyContexts ≡ status.Ok = sym serves ∙ ok in cc
none_refused status.TooManyContexts expected serves (inr memory) = let same : status.TooManyContexts ≡ status.Memory = sym serves ∙ memory in cc
none_refused (status.Neverallow version line s t perm) expected serves (inl ok) = let same : status.Neverallow version line s t perm ≡ status.Ok = sym serves ∙ ok in cc
none_refused (status.Neverallow version line s t perm) expected serves (inr memory) = let same : status.Neverallow version line s t perm ≡ status.Memory = sym serves ∙ memory in cc
none_refused status.TooLarge expected serves (inl ok) = let same : status.TooLarge ≡ status.Ok = sym serves ∙ ok in cc
none_refused status.TooLarge expected serves (inr memory) = let same : status.TooLarge ≡ status.Memory = sym serves ∙ memory in cc

-- a task is accepted whose policy fits
accepted : (asked : Task) (judged : Judged) → ((contexts : List (ContextOf (List ℕ))) × (judged ≡ Fits contexts)) → task_status asked (Some judged) ≡ status.Ok
accepted asked judged fit = rw fit.1 refl

-- a session that was made is served so
made_ends : (said : Status) (seed clients lines : ℕ) (before after : Option (List ℕ)) → Served said (Ok (task.Summary (generated seed clients lines))) before after → IsEndOfMade said
unfolding generated
made_ends said seed clients lines before after served = by_judged served.judged served.is_judged served.answers
  where
    by_judged : (judged : Option Judged) → IsJudgedOf (Ok (task.Summary (generated seed clients lines))) judged → Serves said (status_of (Ok (task.Summary (generated seed clients lines))) judged) → IsEndOfMade said
    by_judged None is serves = none_refused said status.Memory serves (inr refl)
    by_judged (Some judged) is serves = none_refused said _ serves (inl (accepted (task.Summary (generated seed clients lines)) judged (fits judged is)))

-- and what is served by a command that reads no input
pub unread_ends : (said : Status) (asked : Command) (bytes : List ℕ) (before after : Option (List ℕ)) → reads_input asked ≡ false → Served said (task_of asked bytes) before after → EndsMade (Some asked) said
unread_ends said command.Serial bytes before after reads served = tt
unread_ends said command.Threads bytes before after reads served = tt
unread_ends said (command.Generate seed clients lines) bytes before after reads served = made_ends said seed clients lines before after served
unread_ends said (command.Flow asked) bytes before after reads served = tt
unread_ends said (command.Enter asked) bytes before after reads served = tt
unread_ends said (command.Learn version) bytes before after reads served = tt

-- of a command that reads its input nothing is asked
pub read_ends : (said : Status) (asked : Command) → reads_input asked ≡ true → EndsMade (Some asked) said
read_ends said command.Serial reads = tt
read_ends said command.Threads reads = tt
read_ends said (command.Generate seed clients lines) reads = absurd (true≢false (sym reads))
read_ends said (command.Flow asked) reads = tt
read_ends said (command.Enter asked) reads = tt
read_ends said (command.Learn version) reads = tt
