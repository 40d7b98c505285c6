-- How a run goes, by where it ends.
use Rattle.std.proofs.Common.{◌≡◌, ◌≤◌, ℕ, Bool, true, false, true≢false, List, [], length, Option, None, Some, Result, Ok, Err, refl, sym, ap, append-nil, inl, inr, arith, subst}
use Rattle.std.specs.Prelude.{◌<◌, ◌⊎◌, OnOk, OnErr, codes}
use Rattle.flask_io.specs.Streams.{Takes, Adds}
use Rattle.text_lines.specs.ResultSteps.{LineFault}
use Rattle.text_lines.specs.declared.fault.FaultKind.{FaultKind}
use Rattle.session_text.specs.declared.session.SessionParts.{SessionParts}
use Rattle.flask_sid.specs.declared.context.ContextOf.{ContextOf}
use Rattle.access_vectors.specs.Decisions.{Decisions}
use Rattle.policy_model.specs.declared.policy.PolicyParts.{PolicyParts}
use Rattle.policy_versions.specs.Judging.{Judged, TooMany, Broken, Fits, IsJudged, decisions_of}
use Rattle.policy_versions.specs.Compiling.{IsAnswer}
use Rattle.policy_versions.specs.declared.compiling.CompileFault.{CompileFault}
use Rattle.policy_versions.specs.declared.compiling.CompileFault.TheVariants.{TooManyContexts, Neverallow, Memory}
use Rattle.flow_query.specs.declared.route.Kind.{Kind}
use Rattle.command_line.specs.declared.command.Command.{Command}
use Rattle.command_line.specs.declared.command.PathAsked.{PathAsked}
use Rattle.run_output.specs.Writing.{AddsFront}
use Rattle.flaskd_run.specs.Reading.{IsEnd}
use Rattle.serial_run.specs.Serial.{text_on, summary_on}
use Rattle.flaskd_run.specs.Paths.{IsFound, found_text}
use Rattle.flaskd_run.specs.Learning.{learned_on}
use Rattle.session_lessons.specs.Lessons.{IsLearnt}
use Rattle.session_lessons.specs.declared.learning.Learnt.{Learnt}
use Rattle.grant_print.specs.Printed.{learned_text}
use Rattle.std.proofs.lemmas.Bool.{lt-ltb, le-ltb}
use Rattle.flaskd_run.specs.Threads.{HasEnded, text_of}
use Rattle.flaskd_run.specs.declared.threads.Ended.{Ended}
use Rattle.flaskd_run.specs.Tasks.{reads_input, task_of, policy_in, IsText, Writes, WritesAll, WritesFront}
use Rattle.flaskd_run.specs.Top.{reads_source, is_large, is_too_large, status_of, expected_of, Answers, IsPrinted, IsPrintedUnless, IsAnswerOf, IsJudgedOf, IsJudgedFor, IsWhole, IsRead, Puts, PutsWhole, Ran, Serves, Served, IsRefused}
use Rattle.flaskd_run.proofs.PathLemmas.{only_found}
use Rattle.flaskd_run.specs.declared.paths.PathAnswer.{PathAnswer}
use Rattle.flaskd_run.specs.declared.status.Status.{Status}
use Rattle.flaskd_run.specs.declared.status.Status.TheVariants as status
use Rattle.run_output.specs.declared.stop.RunStop.{RunStop}
use Rattle.run_output.specs.declared.stop.RunStop.TheVariants as run_stop
use Rattle.flaskd_run.specs.declared.task.Task.{Task}
use Rattle.flaskd_run.specs.declared.task.Task.TheVariants as task

-- nothing was taken
takes_nothing : (left : Option (List ℕ)) → Takes left left []
takes_nothing None = refl
takes_nothing (Some bytes) = refl

-- nothing was written, which is a front of any text
nothing_put : (put : Option (List ℕ)) (text : List ℕ) → AddsFront put put text
nothing_put None text = ([], text, refl, refl)
nothing_put (Some bytes) text = ([], text, refl, ap Some (sym (append-nil bytes)))

-- nothing is told of what a policy comes to
not_judged : (read : Result Task LineFault) → IsJudgedOf read None
not_judged (Ok task) = tt
not_judged (Err fault) = tt

-- and then nothing is printed
none_printed : (read : Result Task LineFault) → IsPrinted read None []
none_printed (Ok task) = refl
none_printed (Err fault) = refl

none_printed_unless : (large : Bool) (read : Result Task LineFault) → IsPrintedUnless large read None []
none_printed_unless true read = refl
none_printed_unless false read = none_printed read

-- there is no task, or nothing is told of what its policy comes to
none_judged : (asked : Option Command) (bytes : List ℕ) → IsJudgedFor asked bytes None
none_judged None bytes = tt
none_judged (Some asked) bytes = not_judged (task_of asked bytes)

none_answered : (asked : Option Command) (bytes : List ℕ) → IsAnswerOf asked bytes None []
none_answered None bytes = refl
none_answered (Some asked) bytes = none_printed_unless (is_too_large asked bytes) (task_of asked bytes)

-- the words are no command
pub usage_ran : (asked : Option Command) (left put : Option (List ℕ)) → asked ≡ None → Ran status.Usage asked left left put put
unfolding expected_of
usage_ran asked left put none =
    rw none (record { taken = []; takes = takes_nothing left; bounded = omega arith; judged = None; is_judged = tt; answers = refl; whole = tt; text = []; is_text = refl; puts = refl })

-- memory was wanting before anything was read
pub memory_ran : (asked : Option Command) (left put : Option (List ℕ)) → Ran status.Memory asked left left put put
memory_ran asked left put = record {
  taken = [];
  takes = takes_nothing left;
  bounded = omega arith;
  judged = None;
  is_judged = none_judged asked [];
  answers = tt;
  whole = whole_memory (reads_source asked);
  text = [];
  is_text = none_answered asked [];
  puts = inl refl;
}
  where
    whole_memory : (reads : Bool) → IsWhole reads status.Memory left
    whole_memory true = tt
    whole_memory false = tt

-- a command that reads its input, and that is too large
pub large_ran : (asked : Command) (before after put : Option (List ℕ)) (bytes : List ℕ) → reads_input asked ≡ true → is_large bytes ≡ true → Takes before after bytes → length bytes ≤ 4194305 → Ran status.TooLarge (Some asked) before after put put
unfolding expected_of
large_ran asked before after put bytes reads large takes bounded =
    record { taken = bytes; takes = takes; bounded = bounded; judged = None; is_judged = not_judged _; answers = rw (reads, large) refl; whole = rw reads tt; text = []; is_text = none_answered (Some asked) bytes; puts = refl }

-- the source failed before its end
pub fault_ran : (asked : Command) (before after put : Option (List ℕ)) (bytes : List ℕ) → reads_input asked ≡ true → Takes before after bytes → length bytes ≤ 4194305 → Ran status.ReadFault (Some asked) before after put put
fault_ran asked before after put bytes reads takes bounded =
    record { taken = bytes; takes = takes; bounded = bounded; judged = None; is_judged = not_judged _; answers = tt; whole = rw reads tt; text = []; is_text = none_answered (Some asked) bytes; puts = refl }

-- memory was wanting before the end of the source
pub wanting_ran : (asked : Command) (before after put : Option (List ℕ)) (bytes : List ℕ) → reads_input asked ≡ true → Takes before after bytes → length bytes ≤ 4194305 → Ran status.Memory (Some asked) before after put put
wanting_ran asked before after put bytes reads takes bounded =
    record { taken = bytes; takes = takes; bounded = bounded; judged = None; is_judged = not_judged _; answers = tt; whole = rw reads tt; text = []; is_text = none_answered (Some asked) bytes; puts = inl refl }

-- what is served is answered
answers_of : (said expected : Status) → Serves said expected → Answers said expected
answers_of status.Ok expected serves = serves
answers_of status.Usage expected serves = serves
answers_of (status.BadText line kind) expected serves = serves
answers_of status.TooManyContexts expected serves = serves
answers_of (status.Neverallow version line s t perm) expected serves = serves
answers_of status.ReadFault expected serves = tt
answers_of status.WriteFault expected serves = serves
answers_of status.TooLarge expected serves = serves
answers_of status.Memory expected serves = tt

-- the end of the input serves every status
whole_of : (said : Status) (left : Option (List ℕ)) → IsEnd left → IsWhole true said left
whole_of status.Ok left at_end = at_end
whole_of status.Usage left at_end = tt
whole_of (status.BadText line kind) left at_end = at_end
whole_of status.TooManyContexts left at_end = at_end
whole_of (status.Neverallow version line s t perm) left at_end = at_end
whole_of status.ReadFault left at_end = tt
whole_of status.WriteFault left at_end = at_end
whole_of status.TooLarge left at_end = tt
whole_of status.Memory left at_end = tt

-- what was written once the input was read to its end
puts_of : (reads : Bool) (said : Status) (left before now : Option (List ℕ)) (text : List ℕ) → IsRead reads left → PutsWhole said before now text → Puts reads said left before now text
puts_of reads status.Ok left before now text at_end puts = puts
puts_of reads status.Usage left before now text at_end puts = puts
puts_of reads (status.BadText line kind) left before now text at_end puts = puts
puts_of reads status.TooManyContexts left before now text at_end puts = puts
puts_of reads (status.Neverallow version line s t perm) left before now text at_end puts = puts
puts_of reads status.ReadFault left before now text at_end puts = puts
puts_of reads status.WriteFault left before now text at_end puts = puts
puts_of reads status.TooLarge left before now text at_end puts = puts
puts_of reads status.Memory left before now text at_end puts = inr (at_end, puts)

-- nothing is too large for a command that reads no input
none_too_large : (asked : Command) (bytes : List ℕ) → reads_input asked ≡ false → is_too_large asked bytes ≡ false
none_too_large asked bytes reads = rw reads refl

-- and an input that is not
not_too_large : (asked : Command) (bytes : List ℕ) → reads_input asked ≡ true → is_large bytes ≡ false → is_too_large asked bytes ≡ false
not_too_large asked bytes reads small = rw (reads, small) refl

-- what is printed where nothing is too large
unless_not : (large : Bool) (read : Result Task LineFault) (judged : Option Judged) (text : List ℕ) → large ≡ false → IsPrinted read judged text → IsPrintedUnless large read judged text
unless_not true read judged text not_large printed = absurd (true≢false not_large)
unless_not false read judged text not_large printed = printed

-- the input was read to its end
pub served_ran : (said : Status) (asked : Command) (before after put now : Option (List ℕ)) (bytes : List ℕ) → reads_input asked ≡ true → is_large bytes ≡ false → Takes before after bytes → length bytes ≤ 4194305 → IsEnd after → Served said (task_of asked bytes) put now → Ran said (Some asked) before after put now
unfolding expected_of
served_ran said asked before after put now bytes reads small takes bounded at_end served =
    let fitting : is_too_large asked bytes ≡ false = not_too_large asked bytes reads small in
    record {
      taken = bytes;
      takes = takes;
      bounded = bounded;
      judged = served.judged;
      is_judged = served.is_judged;
      answers = rw fitting (answers_of said _ served.answers);
      whole = rw reads (whole_of said after at_end);
      text = served.text;
      is_text = unless_not (is_too_large asked bytes) (task_of asked bytes) served.judged served.text fitting served.is_text;
      puts = puts_of (reads_input asked) said after put now served.text (rw reads at_end) served.puts;
    }

-- what is asked of the end of the input where none is read
whole_unread : (said : Status) (left : Option (List ℕ)) → IsWhole false said left
whole_unread said left = tt

-- the input was made
pub made_ran : (said : Status) (asked : Command) (left put now : Option (List ℕ)) → reads_input asked ≡ false → Served said (task_of asked []) put now → Ran said (Some asked) left left put now
unfolding expected_of
made_ran said asked left put now reads served =
    let fitting : is_too_large asked [] ≡ false = none_too_large asked [] reads in
    record {
      taken = [];
      takes = takes_nothing left;
      bounded = omega arith;
      judged = served.judged;
      is_judged = served.is_judged;
      answers = rw fitting (answers_of said _ served.answers);
      whole = rw reads (whole_unread said left);
      text = served.text;
      is_text = unless_not (is_too_large asked []) (task_of asked []) served.judged served.text fitting served.is_text;
      puts = puts_of (reads_input asked) said left put now served.text (rw reads tt) served.puts;
    }

-- what is served is no usage
pub served_not_usage : (said : Status) (read : Result Task LineFault) (before after : Option (List ℕ)) → Served said read before after → said ≡ status.Usage → ⊥
served_not_usage said read before after served is = of_status read served.judged (rw is at served.answers)
  where
    of_status : (read : Result Task LineFault) (judged : Option Judged) → status_of read judged ≡ status.Usage → ⊥
    of_status (Err fault) judged same = cc
    of_status (Ok task) None same = cc
    of_status (Ok task) (Some TooMany) same = cc
    of_status (Ok task) (Some (Broken found)) same = cc
    of_status (Ok task) (Some (Fits contexts)) same = cc

-- how what has a faulty line is served
pub refused_served : (line : ℕ) (kind : FaultKind) (put : Option (List ℕ)) (read : Result Task LineFault) → read ≡ Err (record { line = line; kind = kind }) → Served (status.BadText line kind) read put put
refused_served line kind put read is = rw is (record { judged = None; is_judged = tt; answers = refl; text = []; is_text = refl; puts = refl })

-- memory was wanting before anything was written
pub memory_served : (read : Result Task LineFault) (put : Option (List ℕ)) → Served status.Memory read put put
memory_served read put = record { judged = None; is_judged = not_judged read; answers = tt; text = []; is_text = none_printed read; puts = nothing_put put [] }

-- a task whose policy is not compiled
pub refused_policy : (asked : Task) (policy : PolicyParts) (fault : CompileFault) (said : Status) (put : Option (List ℕ)) → policy_in asked ≡ policy → IsAnswer policy (Err fault) → IsRefused policy fault said → Served said (Ok asked) put put
refused_policy asked policy TooManyContexts said put same judged is =
    rw is (record { judged = Some TooMany; is_judged = rw (← same) at judged; answers = refl; text = []; is_text = refl; puts = refl })
refused_policy asked policy (Neverallow version line s t perm) said put same judged is = by_case is
  where
    by_case : IsRefused policy (Neverallow version line s t perm) said → Served said (Ok asked) put put
    by_case (inl memory) = rw memory (memory_served (Ok asked) put)
    by_case (inr broken) = rw (broken, ← same) (record { judged = Some (Broken (record { version = version; line = line; s = s; t = t; perm = perm })); is_judged = rw (← same) at judged; answers = refl; text = []; is_text = refl; puts = refl })
refused_policy asked policy Memory said put same judged is = rw is (memory_served (Ok asked) put)

-- a task that was done
pub ok_served : (asked : Task) (contexts : List (ContextOf (List ℕ))) (put now : Option (List ℕ)) → IsJudged (policy_in asked) (Fits contexts) → WritesAll asked contexts put now → Served status.Ok (Ok asked) put now
ok_served asked contexts put now judged written =
    record { judged = Some (Fits contexts); is_judged = judged; answers = refl; text = written.text; is_text = written.is_text; puts = written.adds }

-- a task of whose text a front was written before the sink failed
pub failed_served : (asked : Task) (contexts : List (ContextOf (List ℕ))) (put now : Option (List ℕ)) → IsJudged (policy_in asked) (Fits contexts) → WritesFront asked contexts put now → Served status.WriteFault (Ok asked) put now
failed_served asked contexts put now judged written =
    record { judged = Some (Fits contexts); is_judged = judged; answers = refl; text = written.text; is_text = written.is_text; puts = written.adds }

-- or before memory was wanting, which may come before there is a text
pub cut_served : (asked : Task) (contexts : List (ContextOf (List ℕ))) (put now : Option (List ℕ)) → IsJudged (policy_in asked) (Fits contexts) → (now ≡ put) ⊎ WritesFront asked contexts put now → Served status.Memory (Ok asked) put now
cut_served asked contexts put now judged (inl same) = rw same (memory_served (Ok asked) put)
cut_served asked contexts put now judged (inr written) =
    record { judged = Some (Fits contexts); is_judged = judged; answers = tt; text = written.text; is_text = written.is_text; puts = written.adds }

-- ---- the text of each task

-- the one text that a task owes was written, or a front of it
of_text : {A : Type 0} (result : Result A RunStop) (asked : Task) (contexts : List (ContextOf (List ℕ))) (put now : Option (List ℕ)) (text : List ℕ) → IsText asked contexts text → OnOk result (Adds put now text) → OnErr result (AddsFront put now text) → Writes result asked contexts put now
of_text (Ok done) asked contexts put now text is ok err = record { text = text; is_text = is; adds = ok }
of_text (Err run_stop.WriteFault) asked contexts put now text is ok err = record { text = text; is_text = is; adds = err }
of_text (Err run_stop.Memory) asked contexts put now text is ok err = inr (record { text = text; is_text = is; adds = err })

-- all that a session says
pub serial_writes : {A : Type 0} (result : Result A RunStop) (session parts : SessionParts) (contexts : List (ContextOf (List ℕ))) (d : Decisions) (put now : Option (List ℕ)) → parts ≡ session → d ≡ decisions_of session.policy contexts → OnOk result (Adds put now (text_on contexts d parts)) → OnErr result (AddsFront put now (text_on contexts d parts)) → Writes result (task.Serial session) contexts put now
serial_writes result session parts contexts d put now same decides ok err =
    of_text result (task.Serial session) contexts put now (text_on contexts d parts) (rw (same, decides) refl) ok err

-- what holds of three values holds of their equals
pub of_three : {A B C : Type 0} (P : A → B → C → Type 0) (a a' : A) (b b' : B) (c c' : C) → a ≡ a' → b ≡ b' → c ≡ c' → P a b c → P a' b' c'
of_three P a a' b b' c c' first second third holds = subst (λ x. P x b' c') first (subst (λ y. P a y c') second (subst (λ z. P a b z) third holds))

-- the histories of a threaded run of it
pub threads_writes : {A D : Type 0} (result : Result A RunStop) (session parts : SessionParts) (contexts : List (ContextOf (List ℕ))) (d : Decisions) (ended : Ended D) (put now : Option (List ℕ)) → parts ≡ session → d ≡ decisions_of session.policy contexts → HasEnded d parts ended
    → OnOk result (Adds put now (text_of contexts parts ended)) → OnErr result (AddsFront put now (text_of contexts parts ended)) → Writes result (task.Threads session) contexts put now
threads_writes result session parts contexts d ended put now same decides has ok err =
    of_text result (task.Threads session) contexts put now (text_of contexts parts ended)
    (record {
      files = ended.closed.files.history;
      processes = ended.closed.processes.history;
      ports = ended.closed.ports.history;
      of_run = rw (same, decides) at has.of_run;
      text_is = ap (λ (s : SessionParts). text_of contexts s ended) same;
    }) ok err

-- its summary alone
pub summary_writes : {A : Type 0} (result : Result A RunStop) (session parts : SessionParts) (contexts : List (ContextOf (List ℕ))) (d : Decisions) (put now : Option (List ℕ)) → parts ≡ session → d ≡ decisions_of session.policy contexts → OnOk result (Adds put now (summary_on d parts)) → OnErr result (AddsFront put now (summary_on d parts)) → Writes result (task.Summary session) contexts put now
summary_writes result session parts contexts d put now same decides ok err =
    of_text result (task.Summary session) contexts put now (summary_on d parts) (rw (same, decides) refl) ok err

-- that the policy has no such version
pub no_version_writes : {A : Type 0} (result : Result A RunStop) (session : SessionParts) (version : ℕ) (contexts : List (ContextOf (List ℕ))) (put now : Option (List ℕ)) → length session.policy.versions ≤ version
    → OnOk result (Adds put now (codes "noversion\n")) → OnErr result (AddsFront put now (codes "noversion\n")) → Writes result (task.Learn session version) contexts put now
unfolding learned_on
no_version_writes result session version contexts put now past ok err =
    of_text result (task.Learn session version) contexts put now (codes "noversion\n") (rw (le-ltb version (length session.policy.versions) past) refl) ok err

-- what was learned
pub learn_writes : {A : Type 0} (result : Result A RunStop) (session parts : SessionParts) (version : ℕ) (contexts : List (ContextOf (List ℕ))) (d : Decisions) (learnt : Learnt) (put now : Option (List ℕ)) → parts ≡ session → d ≡ decisions_of session.policy contexts
    → version < length session.policy.versions → IsLearnt version contexts d parts learnt
    → OnOk result (Adds put now (learned_text learnt.policy learnt.learned.allow learnt.learned.refused)) → OnErr result (AddsFront put now (learned_text learnt.policy learnt.learned.allow learnt.learned.refused)) → Writes result (task.Learn session version) contexts put now
unfolding learned_on
learn_writes result session parts version contexts d learnt put now same decides below is ok err =
    let here : IsLearnt version contexts (decisions_of session.policy contexts) session learnt = rw (same, decides) at is in
    of_text result (task.Learn session version) contexts put now (learned_text learnt.policy learnt.learned.allow learnt.learned.refused)
    (rw (lt-ltb version (length session.policy.versions) below, here.policy_is, here.allow_is, here.refused_is) refl) ok err

-- what was found
pub path_writes : {A : Type 0} (result : Result A RunStop) (policy parts : PolicyParts) (contexts : List (ContextOf (List ℕ))) (kind : Kind) (asked : PathAsked) (found : PathAnswer) (put now : Option (List ℕ)) → parts ≡ policy → IsFound policy contexts kind asked found → OnOk result (Adds put now (found_text parts found)) → OnErr result (AddsFront put now (found_text parts found)) → Writes result (task.Path policy kind asked) contexts put now
path_writes result policy parts contexts kind asked found put now same is ok err =
    of_text result (task.Path policy kind asked) contexts put now (found_text parts found) (record { found = found; is_found = is; only = only_found policy contexts kind asked found is; text_is = rw same refl }) ok err
