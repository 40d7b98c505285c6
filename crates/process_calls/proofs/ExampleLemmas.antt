-- What the plain manager answers on the first day.
use Rattle.std.proofs.Common.{◌≡◌, ℕ, true, false, List, [], ◌∷◌, Option, Some, sym, ap, subst, ◌∙◌}
use Rattle.std.specs.Prelude.{nat_lt, if◌then◌else◌}
use Rattle.std.specs.FinMap as maps
use Rattle.std.specs.Ordering.{nat_cmp}
use Rattle.std.specs.Cmp.{nat_cmp_total}
use Rattle.mode_questions.specs.Requests.{Request}
use Rattle.access_vectors.specs.Perms.{process_fork, process_ptrace, process_getattr}
use Rattle.access_vectors.specs.Vectors.{has}
use Rattle.access_vectors.specs.declared.asked.Asked.{Asked}
use Rattle.process_calls.specs.declared.process.Process.{Process}
use Rattle.process_calls.specs.declared.call.ProcessReply.{ProcessReply}
use Rattle.process_calls.specs.declared.call.ProcessReply.TheVariants.{Done, Num, Denied, TooMany}
use Rattle.process_calls.specs.States.{ProcessState, ProcessAnswer, opened_with, with_process, with_slots, process_limit, asking_attach, saying, asking, after_asking, with_found, while_running}
use Rattle.process_calls.specs.Rows.{started, becoming, started_at, attached_at, with_attached, used}
use Rattle.process_calls.specs.PlainManager.{answer, request_of}
use Rattle.process_calls.specs.Example.{AnswersOfDay, one_client_opening, day_decisions, day_fork, day_attach, day_peek, forked_state, attached_state}

-- the process, and the states that the fork and the attach leave
abbrev day_process : Process
day_process = started 1 0

abbrev opened : ProcessState
opened = opened_with one_client_opening

abbrev forked : ProcessState
forked = record { opening = one_client_opening; processes = maps.insert maps.empty 7 day_process; slots = maps.empty }

abbrev attached : ProcessState
attached = record { opening = one_client_opening; processes = maps.insert maps.empty 7 day_process; slots = maps.insert maps.empty 5 7 }

process_is : maps.get (maps.insert (maps.empty {R = nat_cmp}) 7 day_process) 7 ≡ Some day_process
process_is = maps.get-insert nat_cmp_total maps.empty 7 day_process 7

slot_is : maps.get attached.slots 5 ≡ Some 7
slot_is = maps.get-insert nat_cmp_total maps.empty 5 7 5

-- the questions of the fork, and those of the mode with the answer of getattr
abbrev fork_asked : List Asked
fork_asked = record { s = 1; t = 1; perm = process_fork; yes = true } ∷ []

abbrev mode_asked : List Asked
mode_asked = record { s = 1; t = 1; perm = process_ptrace; yes = true } ∷ record { s = 1; t = 1; perm = process_getattr; yes = true } ∷ []

abbrev half_asked : List Asked
half_asked = record { s = 1; t = 1; perm = process_ptrace; yes = true } ∷ record { s = 1; t = 1; perm = process_getattr; yes = false } ∷ []

-- the client's request in a state, under a number whose version is the same
abbrev asks : ProcessState → ℕ → Request
asks state number = request_of day_decisions state 0 number number

-- the fork, by what stands at its number, and then by how many processes there are
abbrev fork_then : ProcessAnswer → ProcessAnswer
fork_then rest = asking (asks opened 0) opened 1 process_fork (becoming (asks opened 0) opened 1 1 rest)

abbrev fork_by_count : ℕ → ProcessAnswer
fork_by_count count =
    fork_then (if nat_lt count process_limit then saying (with_process opened 7 day_process) Done else saying opened TooMany)

fork_is : answer day_decisions opened 0 day_fork 0 0 ≡ record { reply = Done; state = forked; asked = fork_asked }
unfolding has
fork_is =
    ap (λ (found : Option Process). fork_then (started_at opened 0 7 1 found)) (maps.get-empty nat_cmp 7)
    ∙ ap fork_by_count (maps.len-empty nat_cmp Process)

-- the attach, by what the slot holds, and then by what stands at the process's number
abbrev attach_by_process : Option Process → ProcessAnswer
attach_by_process found =
    with_found forked found
    (λ process. while_running forked process.ended
    (after_asking (asks forked 0) forked (asking_attach (asks forked 0) process.label) (saying (with_slots forked (maps.insert forked.slots 5 7)) Done)))

attach_is : answer day_decisions forked 0 day_attach 0 0 ≡ record { reply = Done; state = attached; asked = mode_asked }
unfolding has
attach_is =
    ap (attached_at (asks forked 0) forked 5 7) (maps.get-empty nat_cmp 5) ∙ ap attach_by_process process_is

-- a peek, by what the slot holds, and then by what stands at the process's number
abbrev peek_by_slot : ℕ → Option ℕ → ProcessAnswer
peek_by_slot number held = used (asks attached number) attached held (λ pid process. saying attached (Num process.register))

abbrev peek_by_process : ℕ → Option Process → ProcessAnswer
peek_by_process number found =
    with_attached attached found
    (λ process. after_asking (asks attached number) attached (asking_attach (asks attached number) process.label)
    (while_running attached process.ended (saying attached (Num process.register))))

allowed_is : answer day_decisions attached 0 day_peek 0 0 ≡ record { reply = Num 0; state = attached; asked = mode_asked }
unfolding has
allowed_is = ap (peek_by_slot 0) slot_is ∙ ap (peek_by_process 0) process_is

denied_is : answer day_decisions attached 0 day_peek 1 1 ≡ record { reply = Denied process_getattr 1; state = attached; asked = half_asked }
unfolding has
denied_is = ap (peek_by_slot 1) slot_is ∙ ap (peek_by_process 1) process_is

forked_is : forked_state one_client_opening ≡ forked
forked_is = ap (λ (a : ProcessAnswer). a.state) fork_is

attached_is : attached_state one_client_opening ≡ attached
attached_is = ap (λ (state : ProcessState). (answer day_decisions state 0 day_attach 0 0).state) forked_is ∙ ap (λ (a : ProcessAnswer). a.state) attach_is

-- an answer that leaves a state, by an equal state
abbrev left_by : ProcessReply → List Asked → ProcessState → ProcessAnswer
left_by said asked state = record { reply = said; state = state; asked = asked }

pub answers_of_day : AnswersOfDay one_client_opening
answers_of_day = record {
  forked = fork_is ∙ ap (left_by Done fork_asked) (sym forked_is);
  attached = ap (λ (state : ProcessState). answer day_decisions state 0 day_attach 0 0) forked_is ∙ attach_is ∙ ap (left_by Done mode_asked) (sym attached_is);
  allowed = subst (λ (state : ProcessState). answer day_decisions state 0 day_peek 0 0 ≡ left_by (Num 0) mode_asked state) (sym attached_is) allowed_is;
  denied = subst (λ (state : ProcessState). answer day_decisions state 0 day_peek 1 1 ≡ left_by (Denied process_getattr 1) half_asked state) (sym attached_is) denied_is;
}
