-- That a run between ends that never fail is complete.
use Rattle.std.proofs.Common.{◌≡◌, ◌≤◌, ◌<◌, ◌+◌, ◌&&◌, ◌++◌, ℕ, Bool, true, false, true≢false, List, [], length, Option, None, Some, Result, Ok, Err, refl, sym, ◌∙◌, ap, subst, append-nil, length-append, inl, inr, arith}
use Rattle.std.proofs.lemmas.Bool.{false≢true, lt-ltb}
use Rattle.std.proofs.lemmas.Bool.Decides.{nat_tests}
use Rattle.flask_io.specs.Streams.{Takes}
use Rattle.text_lines.specs.ResultSteps.{LineFault}
use Rattle.policy_versions.specs.Judging.{Judged, TooMany, Broken, Fits}
use Rattle.command_line.specs.declared.command.Command.{Command}
use Rattle.command_line.specs.declared.command.Command.TheVariants as command
use Rattle.flaskd_run.specs.Reading.{IsEnd}
use Rattle.flaskd_run.specs.Tasks.{reads_input, task_of}
use Rattle.flaskd_run.specs.Top.{reads_source, is_large, is_too_large, task_status, status_of, expected_of, Answers, IsJudgedOf, IsJudgedFor, IsWhole, Ran}
use Rattle.flaskd_run.specs.declared.task.Task.{Task}
use Rattle.flaskd_run.specs.declared.status.Status.{Status}
use Rattle.flaskd_run.specs.declared.status.Status.TheVariants as status
use Rattle.run_ends.specs.Complete.{IsComplete}

-- nothing need be told of what a policy comes to
not_judged : (read : Result Task LineFault) → IsJudgedOf read None
not_judged (Ok task) = tt
not_judged (Err fault) = tt

none_judged : (asked : Option Command) (bytes : List ℕ) → IsJudgedFor asked bytes None
none_judged None bytes = tt
none_judged (Some asked) bytes = not_judged (task_of asked bytes)

-- an input that was read to its end is what was taken of it
all_taken : (bytes taken : List ℕ) (left : Option (List ℕ)) → Takes (Some bytes) left taken → IsEnd left → bytes ≡ taken
all_taken bytes taken None takes at_end = cc
all_taken bytes taken (Some rest) takes at_end = same bytes (taken ++ rest) takes ∙ ap (λ more. taken ++ more) at_end ∙ append-nil taken
  where
    same : (a b : List ℕ) → Some a ≡ Some b → a ≡ b
    same a b is = cc

-- a run that read its input to the end is complete
read_complete : (answer : Status) (asked : Command) (bytes taken : List ℕ) (left : Option (List ℕ)) (judged : Option Judged) → Takes (Some bytes) left taken
    → IsEnd left → IsJudgedFor (Some asked) taken judged → expected_of (Some asked) taken judged ≡ answer → IsComplete answer (Some asked) bytes
read_complete answer asked bytes taken left judged takes at_end is_judged expected =
    let same = all_taken bytes taken left takes at_end in
    record { judged = judged; is_judged = rw same is_judged; is_expected = inr (rw same (sym expected)) }

-- a run whose status says something of the whole input is complete: either the command reads none, or it was read to its end
whole_complete : (answer : Status) (asked : Option Command) (bytes taken : List ℕ) (left : Option (List ℕ)) (judged : Option Judged) → Takes (Some bytes) left taken
    → (reads_source asked ≡ true → IsEnd left) → IsJudgedFor asked taken judged → expected_of asked taken judged ≡ answer → IsComplete answer asked bytes
unfolding expected_of
whole_complete answer None bytes taken left judged takes at_end is_judged expected =
    record { judged = judged; is_judged = tt; is_expected = inr (sym expected) }
whole_complete answer (Some (command.Generate seed clients lines)) bytes taken left judged takes at_end is_judged expected =
    record { judged = judged; is_judged = is_judged; is_expected = inr (sym expected) }
whole_complete answer (Some command.Serial) bytes taken left judged takes at_end is_judged expected = read_complete answer command.Serial bytes taken left judged takes (at_end refl) is_judged expected
whole_complete answer (Some command.Threads) bytes taken left judged takes at_end is_judged expected = read_complete answer command.Threads bytes taken left judged takes (at_end refl) is_judged expected
whole_complete answer (Some (command.Flow path)) bytes taken left judged takes at_end is_judged expected = read_complete answer (command.Flow path) bytes taken left judged takes (at_end refl) is_judged expected
whole_complete answer (Some (command.Enter path)) bytes taken left judged takes at_end is_judged expected = read_complete answer (command.Enter path) bytes taken left judged takes (at_end refl) is_judged expected
whole_complete answer (Some (command.Learn version)) bytes taken left judged takes at_end is_judged expected = read_complete answer (command.Learn version) bytes taken left judged takes (at_end refl) is_judged expected

-- what was read comes neither to words that are no command nor to too large an input
never_usage : (read : Result Task LineFault) (judged : Option Judged) → status_of read judged ≡ status.Usage → ⊥
never_usage (Err fault) judged is = cc
never_usage (Ok task) None is = cc
never_usage (Ok task) (Some TooMany) is = cc
never_usage (Ok task) (Some (Broken found)) is = cc
never_usage (Ok task) (Some (Fits contexts)) is = cc

never_large : (read : Result Task LineFault) (judged : Option Judged) → status_of read judged ≡ status.TooLarge → ⊥
never_large (Err fault) judged is = cc
never_large (Ok task) None is = cc
never_large (Ok task) (Some TooMany) is = cc
never_large (Ok task) (Some (Broken found)) is = cc
never_large (Ok task) (Some (Fits contexts)) is = cc

-- a command has another status than words that are none
no_usage : (asked : Command) (bytes : List ℕ) (judged : Option Judged) → expected_of (Some asked) bytes judged ≡ status.Usage → ⊥
unfolding expected_of
no_usage asked bytes judged is = by_size (is_too_large asked bytes) refl
  where
    by_size : (large : Bool) → is_too_large asked bytes ≡ large → ⊥
    by_size true large = large_is_none (rw large at is)
      where
        large_is_none : status.TooLarge ≡ status.Usage → ⊥
        large_is_none same = cc
    by_size false large = never_usage (task_of asked bytes) judged (rw large at is)

-- what is too large of an input makes all of it too large
larger : (asked : Command) (bytes taken : List ℕ) (left : Option (List ℕ)) → Takes (Some bytes) left taken → is_too_large asked taken ≡ true → is_too_large asked bytes ≡ true
larger asked bytes taken None takes large = cc
larger asked bytes taken (Some rest) takes large = by_read (reads_input asked) refl
  where
    same : (a b : List ℕ) → Some a ≡ Some b → a ≡ b
    same a b is = cc

    by_read : (reads : Bool) → reads_input asked ≡ reads → is_too_large asked bytes ≡ true
    by_read false reads = absurd (false≢true (rw reads at large))
    by_read true reads =
        let taken_large : is_large taken ≡ true = rw reads at large in
        let longer : 4194304 < length taken = grind (arith, nat_tests, taken_large) in
        rw reads (lt-ltb 4194304 (length bytes) (omega (arith, longer, ap length (same bytes (taken ++ rest) takes), length-append taken rest)))

-- a run that found its input too large is complete
large_complete : (asked : Option Command) (bytes taken : List ℕ) (left : Option (List ℕ)) (judged : Option Judged) → Takes (Some bytes) left taken
    → expected_of asked taken judged ≡ status.TooLarge → IsComplete status.TooLarge asked bytes
unfolding expected_of
large_complete None bytes taken left judged takes expected = absurd (no_command expected)
  where
    no_command : status.Usage ≡ status.TooLarge → ⊥
    no_command same = cc
large_complete (Some asked) bytes taken left judged takes expected = by_size (is_too_large asked taken) refl
  where
    by_size : (large : Bool) → is_too_large asked taken ≡ large → IsComplete status.TooLarge (Some asked) bytes
    by_size true large =
        record { judged = None; is_judged = none_judged (Some asked) bytes; is_expected = inr (rw (larger asked bytes taken left takes large) refl) }
    by_size false large = absurd (never_large (task_of asked taken) judged (rw large at expected))

-- where memory was wanting nothing else need be said
memory_complete : (asked : Option Command) (bytes : List ℕ) → IsComplete status.Memory asked bytes
memory_complete asked bytes = record { judged = None; is_judged = none_judged asked bytes; is_expected = inl refl }

-- what a status says of the end of the input where the command reads it
ended_by : (answer : Status) (asked : Option Command) (left : Option (List ℕ)) → (IsWhole true answer left → IsEnd left) → IsWhole (reads_source asked) answer left → reads_source asked ≡ true → IsEnd left
ended_by answer asked left says whole reads = says (subst (λ read. IsWhole read answer left) reads whole)

-- a run that no fault of its ends stopped is complete
complete : (answer : Status) (asked : Option Command) (bytes : List ℕ) (left put now : Option (List ℕ)) → Ran answer asked (Some bytes) left put now
    → (answer ≡ status.ReadFault → ⊥) → (answer ≡ status.WriteFault → ⊥) → IsComplete answer asked bytes
unfolding expected_of
complete status.Ok asked bytes left put now ran read written =
    whole_complete _ asked bytes ran.taken left ran.judged ran.takes (ended_by _ asked left (λ is. is) ran.whole) ran.is_judged ran.answers
complete (status.BadText line kind) asked bytes left put now ran read written =
    whole_complete _ asked bytes ran.taken left ran.judged ran.takes (ended_by _ asked left (λ is. is) ran.whole) ran.is_judged ran.answers
complete status.TooManyContexts asked bytes left put now ran read written =
    whole_complete _ asked bytes ran.taken left ran.judged ran.takes (ended_by _ asked left (λ is. is) ran.whole) ran.is_judged ran.answers
complete (status.Neverallow version line s t perm) asked bytes left put now ran read written =
    whole_complete _ asked bytes ran.taken left ran.judged ran.takes (ended_by _ asked left (λ is. is) ran.whole) ran.is_judged ran.answers
complete status.Usage None bytes left put now ran read written = record { judged = None; is_judged = tt; is_expected = inr usage }
  where
    usage : status.Usage ≡ expected_of None bytes None
    usage = refl
complete status.Usage (Some asked) bytes left put now ran read written = absurd (no_usage asked ran.taken ran.judged ran.answers)
complete status.TooLarge asked bytes left put now ran read written = large_complete asked bytes ran.taken left ran.judged ran.takes ran.answers
complete status.Memory asked bytes left put now ran read written = memory_complete asked bytes
complete status.ReadFault asked bytes left put now ran read written = absurd (read refl)
complete status.WriteFault asked bytes left put now ran read written = absurd (written refl)

-- the same, of a source that has these bytes left
pub complete_from : (answer : Status) (asked : Option Command) (bytes : List ℕ) (before left put now : Option (List ℕ)) → before ≡ Some bytes → Ran answer asked before left put now
    → (answer ≡ status.ReadFault → ⊥) → (answer ≡ status.WriteFault → ⊥) → IsComplete answer asked bytes
complete_from answer asked bytes before left put now is ran read written = complete answer asked bytes left put now (subst (λ b. Ran answer asked b left put now) is ran) read written
