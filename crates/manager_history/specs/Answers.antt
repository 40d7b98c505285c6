-- Plain managers: what a call answers, and what it asks.
use Rattle.std.specs.Prelude.{◌≡◌, ℕ, true, false, List, [], ◌∷◌, ◌++◌, All, Option, Some, None}
use Rattle.access_vectors.specs.Table.{Permission}
use Rattle.access_vectors.specs.Vectors.{has}
use Rattle.access_vectors.specs.Decisions.{Decisions}
use Rattle.access_vectors.specs.declared.asked.Asked.{Asked}

-- what a plain manager answers to a call: the reply, the state after it, and the questions that it asked, in order
pub record Answer (Reply State : Type 0) : Type 0 where
  pub reply : Reply
  pub state : State
  pub asked : List Asked

-- a plain manager keeps no cache and no rights: to a caller's call in a state it gives an answer, under a policy
-- number and that number's version
abbrev pub Manager : Type 0 → Type 0 → Type 0 → Type 0
Manager Call Reply State = Decisions → State → ℕ → Call → ℕ → ℕ → Answer Reply State

-- what a reply of denial says: the permission that is missing, and the policy number that lacks it
pub record Denial : Type 0 where
  pub perm : Permission
  pub policy : ℕ

-- a question has the answer that the decisions of that version give
abbrev pub IsTold : Decisions → ℕ → Asked → Type 0
IsTold d version q = q.yes ≡ has (d.vector version q.s q.t q.perm.class) q.perm.index

-- the last question is the only one with the answer no, and it asks for that permission
pub record EndsWithNo (perm : Permission) (asked : List Asked) : Type 0 where
  pub before : List Asked
  pub last : Asked
  pub asked_is : asked ≡ before ++ last ∷ []
  pub allowed : All (λ q. q.yes ≡ true) before
  pub refused : last.yes ≡ false
  pub names : last.perm ≡ perm

-- the questions of a reply: with no denial each was answered yes, and a denial names the policy number that was asked
-- under, and the permission of the last question, which is the only no
abbrev pub AreQuestionsOf : Option Denial → ℕ → List Asked → Type 0
AreQuestionsOf None number asked = All (λ q. q.yes ≡ true) asked
AreQuestionsOf (Some denial) number asked = (denial.policy ≡ number) × EndsWithNo denial.perm asked

-- an answer is honest: its questions are answered by the decisions of the version, and they are those of its reply
pub record IsHonest {Reply State : Type 0} (denial_of : Reply → Option Denial) (d : Decisions) (number version : ℕ)
    (answer : Answer Reply State) : Type 0 where
  pub told : All (IsTold d version) answer.asked
  pub ends : AreQuestionsOf (denial_of answer.reply) number answer.asked
