-- A first day of the plain process manager: one client, one process, and a change of policy that withholds one permission of
-- the two that a use asks.
use Rattle.std.specs.Prelude.{◌≡◌, ℕ, zero, suc, true, false, [], ◌∷◌}
use Rattle.access_vectors.specs.Perms.{process_fork, process_ptrace, process_getattr}
use Rattle.access_vectors.specs.Decisions.{Decisions}
use Rattle.access_vectors.specs.declared.class.Class.{Class}
use Rattle.process_calls.specs.declared.opening.ProcessOpening.{ProcessOpening}
use Rattle.process_calls.specs.declared.call.ProcessCall.{ProcessCall}
use Rattle.process_calls.specs.declared.call.ProcessCall.TheVariants.{Fork, Attach, Peek}
use Rattle.process_calls.specs.declared.call.ProcessReply.TheVariants.{Done, Num, Denied}
use Rattle.process_calls.specs.PlainManager.{answer}
use Rattle.process_calls.specs.States.{ProcessState, opened_with}

-- one client
abbrev pub one_client_opening : ProcessOpening
one_client_opening = record { clients = 1 ∷ [] }

-- the permissions of a version: version 0 allows all seven of class process, and every later one withholds the last, getattr
abbrev pub day_vector : ℕ → ℕ → ℕ → Class → ℕ
day_vector zero s t class = 127
day_vector (suc later) s t class = 63

-- the decisions of the day: two versions; new objects are labelled, and members chosen, as their target
abbrev pub day_decisions : Decisions
day_decisions = record { versions = 2; known = λ s. true; vector = day_vector; label = λ version s t class. t; member = λ version s t class. t }

-- the client starts process 7, attaches slot 5 to it, and looks at its register
abbrev pub day_fork : ProcessCall
day_fork = Fork 7

abbrev pub day_attach : ProcessCall
day_attach = Attach 5 7

abbrev pub day_peek : ProcessCall
day_peek = Peek 5

-- the states after the fork and after the attach, under policy number 0 with version 0
abbrev pub forked_state : ProcessOpening → ProcessState
forked_state opening = (answer day_decisions (opened_with opening) 0 day_fork 0 0).state

abbrev pub attached_state : ProcessOpening → ProcessState
attached_state opening = (answer day_decisions (forked_state opening) 0 day_attach 0 0).state

-- what the plain manager answers on that day: the fork asks fork alone, since the child has its parent's label; the attach
-- asks ptrace and getattr; under number 0 the peek asks both once more and tells the register, which is 0; under number 1,
-- whose version withholds getattr, the peek through the same slot asks ptrace, which is allowed, and is denied getattr
pub record AnswersOfDay (opening : ProcessOpening) : Type 0 where
  pub forked : answer day_decisions (opened_with opening) 0 day_fork 0 0
      ≡ record { reply = Done; state = forked_state opening; asked = record { s = 1; t = 1; perm = process_fork; yes = true } ∷ [] }
  pub attached : answer day_decisions (forked_state opening) 0 day_attach 0 0
      ≡ record {
        reply = Done;
        state = attached_state opening;
        asked = record { s = 1; t = 1; perm = process_ptrace; yes = true } ∷ record { s = 1; t = 1; perm = process_getattr; yes = true } ∷ [];
      }
  pub allowed : answer day_decisions (attached_state opening) 0 day_peek 0 0
      ≡ record {
        reply = Num 0;
        state = attached_state opening;
        asked = record { s = 1; t = 1; perm = process_ptrace; yes = true } ∷ record { s = 1; t = 1; perm = process_getattr; yes = true } ∷ [];
      }
  pub denied : answer day_decisions (attached_state opening) 0 day_peek 1 1
      ≡ record {
        reply = Denied process_getattr 1;
        state = attached_state opening;
        asked = record { s = 1; t = 1; perm = process_ptrace; yes = true } ∷ record { s = 1; t = 1; perm = process_getattr; yes = false } ∷ [];
      }
