-- A first day of the plain file manager: one client, one file, and a change of policy that withholds reading.
use Rattle.std.specs.Prelude.{◌≡◌, ℕ, zero, suc, true, false, [], ◌∷◌, Some, codes}
use Rattle.access_vectors.specs.Perms.{file_read, dir_search}
use Rattle.access_vectors.specs.Decisions.{Decisions}
use Rattle.access_vectors.specs.declared.class.Class.{Class}
use Rattle.file_calls.specs.declared.opening.FileOpening.{FileOpening}
use Rattle.file_calls.specs.declared.call.FileCall.{FileCall}
use Rattle.file_calls.specs.declared.call.FileCall.TheVariants.{OpenFile, ReadFile}
use Rattle.file_calls.specs.declared.call.FileReply.TheVariants.{Done, Bytes, Denied}
use Rattle.file_calls.specs.PlainManager.{answer}
use Rattle.file_calls.specs.States.{FileState, opened_with}

-- one client, and one file with four bytes
abbrev pub one_file_opening : FileOpening
one_file_opening = record {
  clients = 1 ∷ [];
  root = 2;
  nodes = record { path = codes "motd" ∷ []; sid = 3; bytes = Some (codes "dawn") } ∷ [];
}

-- the permissions of a version: version 0 allows all, and every later one withholds the first permission of each class
abbrev pub day_vector : ℕ → ℕ → ℕ → Class → ℕ
day_vector zero s t class = 255
day_vector (suc later) s t class = 254

-- the decisions of the day: two versions; new objects are labelled, and members chosen, as their target
abbrev pub day_decisions : Decisions
day_decisions = record { versions = 2; known = λ s. true; vector = day_vector; label = λ version s t class. t; member = λ version s t class. t }

-- the client opens the file for reading, and reads its first two bytes
abbrev pub day_open : FileCall
day_open = OpenFile 5 (codes "motd" ∷ []) 1

abbrev pub day_read : FileCall
day_read = ReadFile 5 0 2

-- the state after the open, under policy number 0 with version 0
abbrev pub opened_state : FileOpening → FileState
opened_state opening = (answer day_decisions (opened_with opening) 0 day_open 0 0).state

-- what the plain manager answers on that day: the open asks to search the root and to read the file; under number 0 the
-- read asks to read the file once more and gets its bytes; under number 1, whose version withholds reading, the read
-- through the same slot asks the same and is denied
pub record AnswersOfDay (opening : FileOpening) : Type 0 where
  pub opened : answer day_decisions (opened_with opening) 0 day_open 0 0
      ≡ record {
        reply = Done;
        state = opened_state opening;
        asked = record { s = 1; t = 2; perm = dir_search; yes = true } ∷ record { s = 1; t = 3; perm = file_read; yes = true } ∷ [];
      }
  pub allowed : answer day_decisions (opened_state opening) 0 day_read 0 0
      ≡ record {
        reply = Bytes (codes "da");
        state = opened_state opening;
        asked = record { s = 1; t = 3; perm = file_read; yes = true } ∷ [];
      }
  pub denied : answer day_decisions (opened_state opening) 0 day_read 1 1
      ≡ record {
        reply = Denied file_read 1;
        state = opened_state opening;
        asked = record { s = 1; t = 3; perm = file_read; yes = false } ∷ [];
      }
