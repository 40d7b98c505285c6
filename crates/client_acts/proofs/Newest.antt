-- The last notice of a lawful history: it is no older than that of a front of it, and no call has a greater number.
use Rattle.std.proofs.Common.{◌≡◌, ℕ, ◌+◌, ◌≤◌, ◌⊎◌, inl, inr, ◌∙◌, List, [], ◌∷◌, ◌++◌, Some, refl, sym, ap, subst, arith}
use Rattle.std.specs.List.{fold}
use Rattle.access_vectors.specs.Decisions.{Decisions}
use Rattle.access_vectors.specs.Forced.{forced_to, MayAbort}
use Rattle.access_vectors.specs.Phases.{MayName}
use Rattle.access_vectors.specs.declared.asked.Asked.{Asked}
use Rattle.access_vectors.specs.declared.phase.Phase.{Phase}
use Rattle.access_vectors.specs.declared.phase.Phase.TheVariants.{Settled, Pending}
use Rattle.manager_history.specs.declared.entry.Entry.{Entry}
use Rattle.manager_history.specs.declared.entry.Entry.TheVariants.{Op, Aborted, Notice, Ack, Forced}
use Rattle.manager_history.specs.Answers.{Manager}
use Rattle.manager_history.specs.Histories.{moment, start_of, answer_at, IsLawful}
use Rattle.gate_rule.specs.History.{noticed, last_notice, StartsWith}
use Rattle.managed_run.specs.Kinds.{kind_of}
use Rattle.managed_run.specs.Laws.{HasNumbers}

-- number and version of the last notice, where before these entries it was this
abbrev notice_from : {Call Reply : Type 0} → ℕ × ℕ → List (Entry Call Reply) → ℕ × ℕ
notice_from p log = fold (λ q e. noticed q (kind_of e)) p log

-- the last notice of two histories one behind the other
notice_through : {Call Reply : Type 0} (p : ℕ × ℕ) (log rest : List (Entry Call Reply)) → notice_from p (log ++ rest) ≡ notice_from (notice_from p log) rest
notice_through p [] rest = refl
notice_through p (entry ∷ log) rest = notice_through (noticed p (kind_of entry)) log rest

-- an operation names no number above the last noticed one, nor has an aborted call such a one
named_below : (phase : Phase) (settled last number : ℕ) → HasNumbers phase settled last → MayName phase number → number ≤ last
named_below (Settled at version) settled last number has named = omega (arith, has.1, named)
named_below (Pending at old new) settled last number has named = by_case named
  where
    by_case : (number ≡ at) ⊎ (number + 1 ≡ at) → number ≤ last
    by_case (inl is) = omega (arith, has.1, is)
    by_case (inr is) = omega (arith, has.1, is)

module _ {Call Reply State : Type 0} (plain : Manager Call Reply State) (formed : Decisions → State → ℕ → Call → Type 0) (d : Decisions) where
  -- where a lawful history stands behind a front of it, in which this was the last notice
  record Place (last : ℕ × ℕ) (rest : List (Entry Call Reply)) : Type 0 where
    state : State
    phase : Phase
    forced : ℕ
    settled : ℕ
    numbers : HasNumbers phase settled last.0
    lawful : IsLawful plain formed d (moment state phase forced) rest

  place_in : (state : State) (phase : Phase) (forced settled : ℕ) (p : ℕ × ℕ) (log rest : List (Entry Call Reply)) → HasNumbers phase settled p.0
      → IsLawful plain formed d (moment state phase forced) (log ++ rest) → Place (notice_from p log) rest
  place_in state phase forced settled p [] rest has lawful =
      record { state = state; phase = phase; forced = forced; settled = settled; numbers = has; lawful = lawful }
  place_in state phase forced settled p (Op caller mark call number asked reply ∷ log) rest has lawful =
      place_in (answer_at plain d state phase caller call number).state phase forced settled p log rest has lawful.1
  place_in state phase forced settled p (Aborted caller mark call number ∷ log) rest has lawful =
      place_in state phase forced settled p log rest has lawful.1
  place_in state (Settled last old) forced settled p (Notice number version ∷ log) rest has lawful =
      place_in state (Pending number old version) forced settled (number, version) log rest (ap (λ (n : ℕ). n + 1) has.0 ∙ sym lawful.0.0, refl) lawful.1
  place_in state (Pending last old new) forced settled p (Notice number version ∷ log) rest has lawful = absurd lawful.0
  place_in state (Settled last version) forced settled p (Ack number ∷ log) rest has lawful = absurd lawful.0
  place_in state (Pending last old new) forced settled p (Ack number ∷ log) rest has lawful =
      place_in state (Settled last new) forced last p log rest (refl, has.1) lawful.1
  place_in state (Settled last version) forced settled p (Forced number ∷ log) rest has lawful = absurd lawful.0
  place_in state (Pending last old new) forced settled p (Forced number ∷ log) rest has lawful =
      place_in state (Settled last new) (forced_to forced (Some number)) last p log rest (refl, has.1) lawful.1

  rises_from : (state : State) (phase : Phase) (forced settled : ℕ) (p : ℕ × ℕ) (log : List (Entry Call Reply)) → HasNumbers phase settled p.0
      → IsLawful plain formed d (moment state phase forced) log → p.0 ≤ (notice_from p log).0
  rises_from state phase forced settled p [] has lawful = omega arith
  rises_from state phase forced settled p (Op caller mark call number asked reply ∷ log) has lawful =
      rises_from (answer_at plain d state phase caller call number).state phase forced settled p log has lawful.1
  rises_from state phase forced settled p (Aborted caller mark call number ∷ log) has lawful =
      rises_from state phase forced settled p log has lawful.1
  rises_from state (Settled last old) forced settled p (Notice number version ∷ log) has lawful =
      let later : number ≤ (notice_from (number, version) log).0
      = rises_from state (Pending number old version) forced settled (number, version) log (ap (λ (n : ℕ). n + 1) has.0 ∙ sym lawful.0.0, refl) lawful.1 in
      omega (arith, later, has.1, lawful.0.0)
  rises_from state (Pending last old new) forced settled p (Notice number version ∷ log) has lawful = absurd lawful.0
  rises_from state (Settled last version) forced settled p (Ack number ∷ log) has lawful = absurd lawful.0
  rises_from state (Pending last old new) forced settled p (Ack number ∷ log) has lawful =
      rises_from state (Settled last new) forced last p log (refl, has.1) lawful.1
  rises_from state (Settled last version) forced settled p (Forced number ∷ log) has lawful = absurd lawful.0
  rises_from state (Pending last old new) forced settled p (Forced number ∷ log) has lawful =
      rises_from state (Settled last new) (forced_to forced (Some number)) last p log (refl, has.1) lawful.1

  -- the last notice is no older than that of a front
  pub rises : (opening : State) (seen log : List (Entry Call Reply)) → IsLawful plain formed d (start_of opening) log → StartsWith log seen
      → (last_notice kind_of seen).0 ≤ (last_notice kind_of log).0
  rises opening seen log lawful starts =
      let split : log ≡ seen ++ starts.0 = starts.1 in
      let at = place_in opening (Settled 0 0) 0 0 (0, 0) seen starts.0 (refl, refl)
      (subst (IsLawful plain formed d (start_of opening)) split lawful) in
      let later : (last_notice kind_of seen).0 ≤ (notice_from (notice_from (0, 0) seen) starts.0).0
      = rises_from at.state at.phase at.forced at.settled (notice_from (0, 0) seen) starts.0 at.numbers at.lawful in
      let is : last_notice kind_of log ≡ notice_from (notice_from (0, 0) seen) starts.0
      = ap (last_notice kind_of) split ∙ notice_through (0, 0) seen starts.0 in
      omega (arith, later, ap (λ (q : ℕ × ℕ). q.0) is)

  -- the last entry is an operation: its number is not above the last notice
  pub operation_noticed : (opening : State) (log : List (Entry Call Reply)) (caller mark : ℕ) (call : Call) (number : ℕ) (asked : List Asked) (reply : Reply)
      → IsLawful plain formed d (start_of opening) (log ++ Op caller mark call number asked reply ∷ [])
      → number ≤ (last_notice kind_of (log ++ Op caller mark call number asked reply ∷ [])).0
  operation_noticed opening log caller mark call number asked reply lawful =
      let at = place_in opening (Settled 0 0) 0 0 (0, 0) log (Op caller mark call number asked reply ∷ []) (refl, refl) lawful in
      let below : number ≤ (notice_from (0, 0) log).0 = named_below at.phase at.settled (notice_from (0, 0) log).0 number at.numbers at.lawful.0.named in
      let is : (last_notice kind_of (log ++ Op caller mark call number asked reply ∷ [])).0 ≡ (notice_from (0, 0) log).0
      = ap (λ (q : ℕ × ℕ). q.0) (notice_through (0, 0) log (Op caller mark call number asked reply ∷ [])) in
      omega (arith, below, is)

  -- the same of an aborted call
  pub aborted_noticed : (opening : State) (log : List (Entry Call Reply)) (caller mark : ℕ) (call : Call) (number : ℕ)
      → IsLawful plain formed d (start_of opening) (log ++ Aborted caller mark call number ∷ [])
      → number ≤ (last_notice kind_of (log ++ Aborted caller mark call number ∷ [])).0
  aborted_noticed opening log caller mark call number lawful =
      let at = place_in opening (Settled 0 0) 0 0 (0, 0) log (Aborted caller mark call number ∷ []) (refl, refl) lawful in
      let below : number ≤ (notice_from (0, 0) log).0 = aborted_below at.phase at.forced at.settled (notice_from (0, 0) log).0 number at.numbers at.lawful.0.below in
      let is : (last_notice kind_of (log ++ Aborted caller mark call number ∷ [])).0 ≡ (notice_from (0, 0) log).0
      = ap (λ (q : ℕ × ℕ). q.0) (notice_through (0, 0) log (Aborted caller mark call number ∷ [])) in
      omega (arith, below, is)
    where
      aborted_below : (phase : Phase) (forced settled last number : ℕ) → HasNumbers phase settled last → MayAbort phase forced number → number ≤ last
      aborted_below (Settled at version) forced settled last number has may = omega (arith, has.1, may.0)
      aborted_below (Pending at old new) forced settled last number has may = omega (arith, has.1, may.0)
