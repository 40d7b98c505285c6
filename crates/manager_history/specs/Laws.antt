-- Laws over histories: revocation, and just denial.
use Rattle.std.specs.Prelude.{◌≡◌, ℕ, List, [], ◌∷◌, All, true, false, Option, Some, None}
use Rattle.access_vectors.specs.Vectors.{has}
use Rattle.access_vectors.specs.Decisions.{Decisions}
use Rattle.access_vectors.specs.Phases.{version_at, MayName}
use Rattle.access_vectors.specs.declared.phase.Phase.{Phase}
use Rattle.access_vectors.specs.declared.asked.Asked.{Asked}
use Rattle.manager_history.specs.declared.entry.Entry.{Entry}
use Rattle.manager_history.specs.declared.entry.Entry.TheVariants.{Op, Aborted, Notice, Ack, Forced}
use Rattle.manager_history.specs.Answers.{Denial, EndsWithNo}
use Rattle.manager_history.specs.Histories.{phase_after}

-- an operation's permissions are in force: it names the settled number, or while a change is pending the new one or the
-- one before, and each question that was answered yes is in the vector of that number's version
pub record IsInForce (d : Decisions) (phase : Phase) (number : ℕ) (asked : List Asked) : Type 0 where
  pub named : MayName phase number
  pub allowed : All (λ q. q.yes ≡ true → has (d.vector (version_at phase number) q.s q.t q.perm.class) q.perm.index ≡ true) asked

-- an entry keeps revocation
abbrev pub KeepsRevocation : {Call Reply : Type 0} → Decisions → Phase → Entry Call Reply → Type 0
KeepsRevocation d phase (Op caller mark call number asked reply) = IsInForce d phase number asked
KeepsRevocation d phase (Aborted caller mark call number) = Unit {0}
KeepsRevocation d phase (Notice number version) = Unit {0}
KeepsRevocation d phase (Ack number) = Unit {0}
KeepsRevocation d phase (Forced number) = Unit {0}

-- revocation holds from a phase on: no operation rests on a permission that the policy in force lacks
abbrev pub RevocationHolds : {Call Reply : Type 0} → Decisions → Phase → List (Entry Call Reply) → Type 0
RevocationHolds d phase [] = Unit {0}
RevocationHolds d phase (entry ∷ entries) = KeepsRevocation d phase entry × RevocationHolds d (phase_after phase entry) entries

-- a denial is just: it names the operation's number, which may be named there; the last question is the only no, asks for
-- the permission that the denial names, and the vector of that number's version lacks it
pub record IsJust (d : Decisions) (phase : Phase) (number : ℕ) (asked : List Asked) (denial : Denial) : Type 0 where
  pub policy : denial.policy ≡ number
  pub named : MayName phase denial.policy
  pub ends : EndsWithNo denial.perm asked
  pub missing : has (d.vector (version_at phase number) ends.last.s ends.last.t ends.last.perm.class) ends.last.perm.index ≡ false

-- a reply that is a denial is a just one
abbrev pub IsJustReply : Decisions → Phase → ℕ → List Asked → Option Denial → Type 0
IsJustReply d phase number asked None = Unit {0}
IsJustReply d phase number asked (Some denial) = IsJust d phase number asked denial

-- an entry keeps just denial
abbrev pub KeepsJustDenial : {Call Reply : Type 0} → (Reply → Option Denial) → Decisions → Phase → Entry Call Reply → Type 0
KeepsJustDenial denial_of d phase (Op caller mark call number asked reply) = IsJustReply d phase number asked (denial_of reply)
KeepsJustDenial denial_of d phase (Aborted caller mark call number) = Unit {0}
KeepsJustDenial denial_of d phase (Notice number version) = Unit {0}
KeepsJustDenial denial_of d phase (Ack number) = Unit {0}
KeepsJustDenial denial_of d phase (Forced number) = Unit {0}

-- each denial from a phase on is just
abbrev pub DenialsAreJust : {Call Reply : Type 0} → (Reply → Option Denial) → Decisions → Phase → List (Entry Call Reply) → Type 0
DenialsAreJust denial_of d phase [] = Unit {0}
DenialsAreJust denial_of d phase (entry ∷ entries) =
    KeepsJustDenial denial_of d phase entry × DenialsAreJust denial_of d (phase_after phase entry) entries
