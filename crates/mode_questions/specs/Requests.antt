-- Requests, and how the answers to them are put together: tests and questions in their order, up to the first that fails.
use Rattle.std.specs.Prelude.{ℕ, List, [], ◌∷◌, ◌++◌, Option, Some, None, if◌then◌else◌}
use Rattle.access_vectors.specs.Table.{Permission}
use Rattle.access_vectors.specs.Vectors.{has}
use Rattle.access_vectors.specs.Decisions.{Decisions}
use Rattle.access_vectors.specs.Asking.{question}
use Rattle.access_vectors.specs.declared.asked.Asked.{Asked}
use Rattle.manager_history.specs.Answers.{Answer}

-- a request: whose decisions answer it and in which version, which client calls, the subject for which is asked, and the
-- policy number under which it is
pub record Request : Type 0 where
  pub decisions : Decisions
  pub version : ℕ
  pub client : ℕ
  pub subject : ℕ
  pub number : ℕ

-- the same request for another subject
abbrev pub with_subject : Request → ℕ → Request
with_subject r subject =
    record { decisions = r.decisions; version = r.version; client = r.client; subject = subject; number = r.number }

-- the question whether the subject has a permission on a target, with its answer
abbrev pub question_of : Request → ℕ → Permission → Asked
question_of r t perm = question r.decisions r.version r.subject t perm

-- a reply that asks nothing more, in a state
abbrev pub saying : {Reply State : Type 0} → State → Reply → Answer Reply State
saying state said = record { reply = said; state = state; asked = [] }

-- a question first: where it is denied that is the reply, and nothing else is done. `denied` is the reply that names the
-- permission which is missing, and the policy number that lacks it.
abbrev pub asking : {Reply State : Type 0} → (Permission → ℕ → Reply) → Request → State → ℕ → Permission → Answer Reply State → Answer Reply State
asking denied r state t perm rest =
    if (question_of r t perm).yes then record { reply = rest.reply; state = rest.state; asked = question_of r t perm ∷ rest.asked }
    else record { reply = denied perm r.number; state = state; asked = question_of r t perm ∷ [] }

-- what comes of asking the permissions of a mode: the first that is denied, and the questions up to it
pub record Asking : Type 0 where
  pub denied : Option Permission
  pub asked : List Asked

-- a question is asked, and the rest where it is allowed
abbrev pub then_asking : Asked → Asking → Asking
then_asking asked rest =
    if asked.yes then record { denied = rest.denied; asked = asked ∷ rest.asked } else record { denied = Some asked.perm; asked = asked ∷ [] }

-- of these permissions those that the mode has are asked, in their order
abbrev pub asking_mode : Request → ℕ → ℕ → List Permission → Asking
asking_mode r t mode [] = record { denied = None; asked = [] }
asking_mode r t mode (perm ∷ perms) =
    if has mode perm.index then then_asking (question_of r t perm) (asking_mode r t mode perms) else asking_mode r t mode perms

-- the same where a vector is known: the questions have the answers that it gives
abbrev pub judging : ℕ → ℕ → ℕ → ℕ → List Permission → Asking
judging known s t mode [] = record { denied = None; asked = [] }
judging known s t mode (perm ∷ perms) =
    if has mode perm.index then then_asking (record { s = s; t = t; perm = perm; yes = has known perm.index }) (judging known s t mode perms)
    else judging known s t mode perms

-- these questions before, and then the reply that stopped the call, or else the rest
abbrev pub stopped_or : {Reply State : Type 0} → State → List Asked → Answer Reply State → Option Reply → Answer Reply State
stopped_or state asked rest (Some said) = record { reply = said; state = state; asked = asked }
stopped_or state asked rest None = record { reply = rest.reply; state = rest.state; asked = asked ++ rest.asked }

-- the reply of a denial, where there is one
abbrev pub denied_with : {Reply : Type 0} → (Permission → ℕ → Reply) → ℕ → Option Permission → Option Reply
denied_with denied number None = None
denied_with denied number (Some perm) = Some (denied perm number)

-- what is done where no permission of a mode was denied
abbrev pub after_asking : {Reply State : Type 0} → (Permission → ℕ → Reply) → Request → State → Asking → Answer Reply State → Answer Reply State
after_asking denied r state asking rest = stopped_or state asking.asked rest (denied_with denied r.number asking.denied)
