-- The laws hold in lawful histories of an honest manager.
use Rattle.std.proofs.Common.{◌≡◌, ℕ, true, List, [], ◌∷◌, ◌++◌, Option, Some, None, sym, subst, ◌∙◌}
use Rattle.std.specs.Prelude.{All}
use Rattle.std.proofs.lemmas.List.Elements.{All-weaker, All-contains, Contains-push}
use Rattle.access_vectors.specs.Vectors.{has}
use Rattle.access_vectors.specs.Decisions.{Decisions}
use Rattle.access_vectors.specs.Phases.{version_at, MayName}
use Rattle.access_vectors.specs.declared.phase.Phase.{Phase}
use Rattle.access_vectors.specs.declared.asked.Asked.{Asked}
use Rattle.manager_history.specs.declared.entry.Entry.{Entry}
use Rattle.manager_history.specs.declared.entry.Entry.TheVariants.{Op, Aborted, Notice, Ack, Forced}
use Rattle.manager_history.specs.Answers.{Manager, Denial, IsTold, EndsWithNo, AreQuestionsOf, IsHonest}
use Rattle.manager_history.specs.Histories.{Moment, answer_at, after, IsLawful}
use Rattle.manager_history.specs.Laws.{IsInForce, RevocationHolds, IsJustReply, DenialsAreJust}

-- every answer of the plain manager is honest
abbrev pub AnswersHonestly : {Call Reply State : Type 0} → (Reply → Option Denial) → Manager Call Reply State → Decisions → Type 0
AnswersHonestly {Call} {Reply} {State} denial_of plain d =
    (at : State) (caller : ℕ) (call : Call) (number version : ℕ) → IsHonest denial_of d number version (plain d at caller call number version)

-- a question that was told yes is in the vector
in_vector : (d : Decisions) (version : ℕ) (q : Asked) → IsTold d version q → q.yes ≡ true → has (d.vector version q.s q.t q.perm.class) q.perm.index ≡ true
in_vector d version q told answered = sym told ∙ answered

-- an honest operation rests on permissions that are in force
in_force : (d : Decisions) (phase : Phase) (number : ℕ) (asked : List Asked) → MayName phase number
    → All (IsTold d (version_at phase number)) asked → IsInForce d phase number asked
in_force d phase number asked named told =
    record {
      named = named;
      allowed = All-weaker (IsTold d (version_at phase number)) (λ q. q.yes ≡ true → has (d.vector (version_at phase number) q.s q.t q.perm.class) q.perm.index ≡ true)
          (λ q. in_vector d (version_at phase number) q) asked told;
    }

-- an honest denial is just
just : (d : Decisions) (phase : Phase) (number : ℕ) (asked : List Asked) (denial : Option Denial) → MayName phase number
    → All (IsTold d (version_at phase number)) asked → AreQuestionsOf denial number asked → IsJustReply d phase number asked denial
just d phase number asked None named told ends = tt
just d phase number asked (Some denial) named told ends =
    let no : EndsWithNo denial.perm asked = ends.1 in
    let all : All (IsTold d (version_at phase number)) (no.before ++ no.last ∷ []) = subst (All (IsTold d (version_at phase number))) no.asked_is told in
    let last : IsTold d (version_at phase number) no.last
    = All-contains (IsTold d (version_at phase number)) (no.before ++ no.last ∷ []) no.last all (Contains-push no.before no.last) in
    record { policy = ends.0; named = subst (MayName phase) (sym ends.0) named; ends = no; missing = sym last ∙ no.refused }

-- revocation holds in a lawful history
pub revocation_from_lawful : {Call Reply State : Type 0} (denial_of : Reply → Option Denial) (plain : Manager Call Reply State)
    (formed : Decisions → State → ℕ → Call → Type 0) (d : Decisions) (at : Moment State) (history : List (Entry Call Reply))
    → AnswersHonestly denial_of plain d → IsLawful plain formed d at history → RevocationHolds d at.phase history
revocation_from_lawful denial_of plain formed d at [] honest lawful = tt
revocation_from_lawful denial_of plain formed d at (Op caller mark call number asked reply ∷ rest) honest lawful = (
  in_force d at.phase number asked lawful.0.named
      (subst (All (IsTold d (version_at at.phase number))) (sym lawful.0.asked_is) (honest at.state caller call number (version_at at.phase number)).told),
  revocation_from_lawful denial_of plain formed d (after plain d at (Op caller mark call number asked reply)) rest honest lawful.1,
)
revocation_from_lawful denial_of plain formed d at (Aborted caller mark call number ∷ rest) honest lawful =
    (tt, revocation_from_lawful denial_of plain formed d (after plain d at (Aborted caller mark call number)) rest honest lawful.1)
revocation_from_lawful denial_of plain formed d at (Notice number version ∷ rest) honest lawful =
    (tt, revocation_from_lawful denial_of plain formed d (after plain d at (Notice number version)) rest honest lawful.1)
revocation_from_lawful denial_of plain formed d at (Ack number ∷ rest) honest lawful =
    (tt, revocation_from_lawful denial_of plain formed d (after plain d at (Ack number)) rest honest lawful.1)
revocation_from_lawful denial_of plain formed d at (Forced number ∷ rest) honest lawful =
    (tt, revocation_from_lawful denial_of plain formed d (after plain d at (Forced number)) rest honest lawful.1)

-- each denial in a lawful history is just
pub denials_from_lawful : {Call Reply State : Type 0} (denial_of : Reply → Option Denial) (plain : Manager Call Reply State)
    (formed : Decisions → State → ℕ → Call → Type 0) (d : Decisions) (at : Moment State) (history : List (Entry Call Reply))
    → AnswersHonestly denial_of plain d → IsLawful plain formed d at history → DenialsAreJust denial_of d at.phase history
denials_from_lawful denial_of plain formed d at [] honest lawful = tt
denials_from_lawful denial_of plain formed d at (Op caller mark call number asked reply ∷ rest) honest lawful =
    let answer : IsHonest denial_of d number (version_at at.phase number) (answer_at plain d at.state at.phase caller call number)
    = honest at.state caller call number (version_at at.phase number) in (
      just d at.phase number asked (denial_of reply) lawful.0.named
          (subst (All (IsTold d (version_at at.phase number))) (sym lawful.0.asked_is) answer.told)
          (let Ends : _ → List Asked → Type 0 = λ r qs. AreQuestionsOf (denial_of r) number qs in
          subst (λ qs. Ends reply qs) (sym lawful.0.asked_is) (subst (λ r. Ends r (answer_at plain d at.state at.phase caller call number).asked) (sym lawful.0.reply_is) answer.ends)),
      denials_from_lawful denial_of plain formed d (after plain d at (Op caller mark call number asked reply)) rest honest lawful.1,
    )
denials_from_lawful denial_of plain formed d at (Aborted caller mark call number ∷ rest) honest lawful =
    (tt, denials_from_lawful denial_of plain formed d (after plain d at (Aborted caller mark call number)) rest honest lawful.1)
denials_from_lawful denial_of plain formed d at (Notice number version ∷ rest) honest lawful =
    (tt, denials_from_lawful denial_of plain formed d (after plain d at (Notice number version)) rest honest lawful.1)
denials_from_lawful denial_of plain formed d at (Ack number ∷ rest) honest lawful =
    (tt, denials_from_lawful denial_of plain formed d (after plain d at (Ack number)) rest honest lawful.1)
denials_from_lawful denial_of plain formed d at (Forced number ∷ rest) honest lawful =
    (tt, denials_from_lawful denial_of plain formed d (after plain d at (Forced number)) rest honest lawful.1)
