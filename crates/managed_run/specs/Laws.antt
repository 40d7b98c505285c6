-- A lawful history of a manager is one that a gate may keep.
use Rattle.std.proofs.Common.{◌≡◌, ℕ, ◌+◌, List, [], ◌∷◌, refl, sym, ap, ◌∙◌, Some}
use Rattle.access_vectors.specs.Decisions.{Decisions}
use Rattle.access_vectors.specs.Forced.{forced_to}
use Rattle.access_vectors.specs.declared.phase.Phase.{Phase}
use Rattle.access_vectors.specs.declared.phase.Phase.TheVariants.{Settled, Pending}
use Rattle.manager_history.specs.declared.entry.Entry.{Entry}
use Rattle.manager_history.specs.declared.entry.Entry.TheVariants.{Op, Aborted, Notice, Ack, Forced}
use Rattle.manager_history.specs.Answers.{Manager}
use Rattle.manager_history.specs.Histories.{moment, start_of, answer_at, IsLawful}
use Rattle.gate_rule.specs.History.{Alternates}
use Rattle.managed_run.specs.Kinds.{kind_of}

-- a phase with its settled and its last noticed number
abbrev pub HasNumbers : Phase → ℕ → ℕ → Type 0
HasNumbers (Settled number version) settled noticed = (settled ≡ number) × (noticed ≡ number)
HasNumbers (Pending number old new) settled noticed = (settled + 1 ≡ number) × (noticed ≡ number)

module _ {Call Reply State : Type 0} (plain : Manager Call Reply State) (formed : Decisions → State → ℕ → Call → Type 0) (d : Decisions) where
  alternates_from : (state : State) (phase : Phase) (forced settled noticed : ℕ) (log : List (Entry Call Reply)) → HasNumbers phase settled noticed
      → IsLawful plain formed d (moment state phase forced) log → Alternates kind_of d.versions settled noticed log
  alternates_from state phase forced settled noticed [] has lawful = tt
  alternates_from state phase forced settled noticed (Op caller mark call number asked reply ∷ log) has lawful =
      (tt, alternates_from (answer_at plain d state phase caller call number).state phase forced settled noticed log has lawful.1)
  alternates_from state phase forced settled noticed (Aborted caller mark call number ∷ log) has lawful =
      (tt, alternates_from state phase forced settled noticed log has lawful.1)
  alternates_from state (Settled last old) forced settled noticed (Notice number version ∷ log) has lawful = (
    (has.1 ∙ sym has.0, lawful.0.0 ∙ ap (λ (n : ℕ). n + 1) (sym has.0), lawful.0.1),
    alternates_from state (Pending number old version) forced settled number log (ap (λ (n : ℕ). n + 1) has.0 ∙ sym lawful.0.0, refl) lawful.1,
  )
  alternates_from state (Pending last old new) forced settled noticed (Notice number version ∷ log) has lawful = absurd lawful.0
  alternates_from state (Settled last version) forced settled noticed (Ack number ∷ log) has lawful = absurd lawful.0
  alternates_from state (Pending last old new) forced settled noticed (Ack number ∷ log) has lawful = (
    (has.1 ∙ sym has.0, lawful.0 ∙ sym has.1),
    alternates_from state (Settled last new) forced number noticed log (lawful.0, has.1) lawful.1,
  )
  alternates_from state (Settled last version) forced settled noticed (Forced number ∷ log) has lawful = absurd lawful.0
  alternates_from state (Pending last old new) forced settled noticed (Forced number ∷ log) has lawful = (
    (has.1 ∙ sym has.0, lawful.0 ∙ sym has.1),
    alternates_from state (Settled last new) (forced_to forced (Some number)) number noticed log (lawful.0, has.1) lawful.1,
  )

  -- notices and acknowledgements of a lawful history alternate
  pub alternates_lawful : (opening : State) (log : List (Entry Call Reply)) → IsLawful plain formed d (start_of opening) log → Alternates kind_of d.versions 0 0 log
  alternates_lawful opening log lawful = alternates_from opening (Settled 0 0) 0 0 0 log (refl, refl) lawful
