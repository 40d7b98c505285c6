-- What a lawful history says of phase, numbers and state.
use Rattle.std.proofs.Common.{◌≡◌, ◌≢◌, ℕ, ◌<◌, ◌≤◌, Bool, true, false, nat_lt, List, [], ◌∷◌, refl, sym, ap, ◌∙◌, subst, inl, inr, ⊎_elim, eq-eqb, Some, arith}
use Rattle.std.specs.Prelude.{if◌then◌else◌}
use Rattle.std.specs.List.{fold}
use Rattle.std.proofs.lemmas.Bool.Decides.{nat_tests}
use Rattle.access_vectors.specs.Decisions.{Decisions}
use Rattle.access_vectors.specs.Forced.{forced_to, is_aborted, MayCall}
use Rattle.access_vectors.specs.Phases.{number_of, settled_number, version_at, is_pending, noticed, acknowledged}
use Rattle.access_vectors.specs.declared.phase.Phase.{Phase}
use Rattle.access_vectors.specs.declared.phase.Phase.TheVariants.{Settled, Pending}
use Rattle.manager_history.specs.declared.entry.Entry.{Entry}
use Rattle.manager_history.specs.declared.entry.Entry.TheVariants.{Op, Aborted, Notice, Ack, Forced}
use Rattle.manager_history.specs.Answers.{Manager}
use Rattle.manager_history.specs.Histories.{moment, start_of, replay, answer_at, greatest_forced, forced_of, IsLawful}
use Rattle.gate_rule.specs.declared.view.Pass.{Pass}
use Rattle.gate_rule.specs.declared.view.Pass.TheVariants.{Inside}
use Rattle.gate_rule.specs.History.{Kind, phase_after, phase_in, last_notice, settled_in, forced_in, version_of, Alternates}
use Rattle.gate_rule.specs.History as gate
use Rattle.gate_rule.specs.Told.{IsAllowed, IsNamed}
use Rattle.gate_rule.proofs.Naming.{Tells, tells, ordered}
use Rattle.managed_run.specs.Kinds.{kind_of, phase_of}

module _ {Call Reply State : Type 0} (plain : Manager Call Reply State) (d : Decisions) where
  phase_from : (state : State) (phase : Phase) (forced : ℕ) (log : List (Entry Call Reply))
      → (replay plain d (moment state phase forced) log).phase ≡ fold (λ p e. phase_after p (kind_of e)) phase log
  phase_from state phase forced [] = refl
  phase_from state phase forced (Op caller mark call number asked reply ∷ log) = phase_from (answer_at plain d state phase caller call number).state phase forced log
  phase_from state phase forced (Aborted caller mark call number ∷ log) = phase_from state phase forced log
  phase_from state phase forced (Notice number version ∷ log) = phase_from state (noticed phase number version) forced log
  phase_from state phase forced (Ack number ∷ log) = phase_from state (acknowledged phase) forced log
  phase_from state phase forced (Forced number ∷ log) = phase_from state (acknowledged phase) (forced_to forced (Some number)) log

  -- the phase of the replay is the history's
  pub phase_replayed : (opening : State) (log : List (Entry Call Reply)) → (replay plain d (start_of opening) log).phase ≡ phase_of log
  phase_replayed opening log = phase_from opening (Settled 0 0) 0 log

  module _ (formed : Decisions → State → ℕ → Call → Type 0)
      (stays : (at : State) (caller : ℕ) (call : Call) (number version other : ℕ) (later : Call) → formed d at caller call → formed d at other later → formed d (plain d at caller call number version).state other later) where
    formed_from : (state : State) (phase : Phase) (forced : ℕ) (log : List (Entry Call Reply)) (other : ℕ) (later : Call) → IsLawful plain formed d (moment state phase forced) log → formed d state other later
        → formed d (replay plain d (moment state phase forced) log).state other later
    formed_from state phase forced [] other later lawful is = is
    formed_from state phase forced (Op caller mark call number asked reply ∷ log) other later lawful is =
        formed_from (answer_at plain d state phase caller call number).state phase forced log other later lawful.1 (stays state caller call number (version_at phase number) other later lawful.0.well_formed is)
    formed_from state phase forced (Aborted caller mark call number ∷ log) other later lawful is = formed_from state phase forced log other later lawful.1 is
    formed_from state phase forced (Notice number version ∷ log) other later lawful is = formed_from state (noticed phase number version) forced log other later lawful.1 is
    formed_from state phase forced (Ack number ∷ log) other later lawful is = formed_from state (acknowledged phase) forced log other later lawful.1 is
    formed_from state phase forced (Forced number ∷ log) other later lawful is = formed_from state (acknowledged phase) (forced_to forced (Some number)) log other later lawful.1 is

    -- a call that is well formed at the opening is well formed at every place of a lawful history
    pub formed_after : (opening : State) (log : List (Entry Call Reply)) (other : ℕ) (later : Call) → IsLawful plain formed d (start_of opening) log → formed d opening other later
        → formed d (replay plain d (start_of opening) log).state other later
    formed_after opening log other later lawful is = formed_from opening (Settled 0 0) 0 log other later lawful is

module _ {Call Reply : Type 0} where
  forced_from : (most : ℕ) (log : List (Entry Call Reply)) → fold (λ m e. forced_to m (forced_of e)) most log ≡ fold (λ m e. gate.forced_to m (kind_of e)) most log
  forced_from most [] = refl
  forced_from most (Op caller mark call number asked reply ∷ log) = forced_from most log
  forced_from most (Aborted caller mark call number ∷ log) = forced_from most log
  forced_from most (Notice number version ∷ log) = forced_from most log
  forced_from most (Ack number ∷ log) = forced_from most log
  forced_from most (Forced number ∷ log) = forced_from (forced_to most (Some number)) log

  -- the greatest forced number is the one that the gate reads
  pub forced_is : (log : List (Entry Call Reply)) → greatest_forced log ≡ forced_in kind_of log
  forced_is log = forced_from 0 log

below_is : (a b : ℕ) → nat_lt a b ≡ true → a < b
below_is a b h = grind (arith, nat_tests)

not_below_is : (a b : ℕ) → nat_lt a b ≡ false → b ≤ a
not_below_is a b h = grind (arith, nat_tests)

-- while a change is pending the settled number is not the last one noticed
apart_by : (a : ℕ) (p : ℕ × ℕ) (ver : ℕ → ℕ) (phase : Phase) → Tells a p ver phase → is_pending phase ≡ true → a ≢ p.0
apart_by a p ver (Settled n v) h pending = absurd (cc)
apart_by a p ver (Pending n old new) h pending = λ e. let x = h.0 in let y = ap (λ (q : ℕ × ℕ). q.0) h.1 in omega arith

module _ {E : Type 0} (kind : E → Kind) (versions : ℕ) (log : List E) (alternates : Alternates kind versions 0 0 log) where
  settled_by : (a : ℕ) (p : ℕ × ℕ) (ver : ℕ → ℕ) (phase : Phase) → Tells a p ver phase → a ≡ settled_number phase
  settled_by a p ver (Settled n v) h = h.0
  settled_by a p ver (Pending n old new) h = let e = h.0 in omega arith

  newest_by : (a : ℕ) (p : ℕ × ℕ) (ver : ℕ → ℕ) (phase : Phase) → Tells a p ver phase → p.0 ≡ number_of phase
  newest_by a p ver (Settled n v) h = ap (λ (q : ℕ × ℕ). q.0) h.1
  newest_by a p ver (Pending n old new) h = ap (λ (q : ℕ × ℕ). q.0) h.1

  version_by : (a : ℕ) (p : ℕ × ℕ) (ver : ℕ → ℕ) (phase : Phase) → Tells a p ver phase → p.1 ≡ version_at phase p.0
  version_by a p ver (Settled n v) h = ap (λ (q : ℕ × ℕ). q.1) h.1
  version_by a p ver (Pending n old new) h = ap (λ (q : ℕ × ℕ). q.1) h.1 ∙ sym (ap (λ (b : Bool). if b then new else old) (eq-eqb p.0 n (ap (λ (q : ℕ × ℕ). q.0) h.1)))

  -- the settled number is the phase's, and so is the last one noticed
  pub settled_is : settled_in kind log ≡ settled_number (phase_in kind log)
  settled_is = settled_by (settled_in kind log) (last_notice kind log) (λ m. version_of kind m log) (phase_in kind log) (tells kind versions log alternates)

  pub newest_is : (last_notice kind log).0 ≡ number_of (phase_in kind log)
  newest_is = newest_by (settled_in kind log) (last_notice kind log) (λ m. version_of kind m log) (phase_in kind log) (tells kind versions log alternates)

  -- and its version is the phase's of it
  pub version_is : (last_notice kind log).1 ≡ version_at (phase_in kind log) (last_notice kind log).0
  version_is = version_by (settled_in kind log) (last_notice kind log) (λ m. version_of kind m log) (phase_in kind log) (tells kind versions log alternates)

  pub apart : is_pending (phase_in kind log) ≡ true → settled_in kind log ≢ (last_notice kind log).0
  apart pending = apart_by (settled_in kind log) (last_notice kind log) (λ m. version_of kind m log) (phase_in kind log) (tells kind versions log alternates) pending

  module _ (number version : ℕ) (allowed : IsAllowed kind (Inside number version) log) (named : IsNamed kind (Inside number version) log) where
    -- a call under the pass's number may be made
    pub may_call : MayCall (phase_in kind log) (forced_in kind log) number
    may_call = go (nat_lt number (settled_in kind log)) refl
      where
        go : (b : Bool) → nat_lt number (settled_in kind log) ≡ b → MayCall (phase_in kind log) (forced_in kind log) number
        go true is =
            let lt = below_is number (settled_in kind log) is in
            let at = settled_is in
            let high = (ordered kind versions log alternates).settled in
            inr (omega arith, ⊎_elim (λ e. absurd (omega arith)) (⊎_elim (λ e. absurd (omega arith)) (λ h. h)) allowed.0)
        go false is = inl (named (not_below_is number (settled_in kind log) is)).0

    -- unless it is aborted, the pass's version is the number's
    pub version_in_force : is_aborted (phase_in kind log) number ≡ false → version ≡ version_at (phase_in kind log) number
    version_in_force is = let at = settled_is in let le = not_below_is number (settled_number (phase_in kind log)) is in (named (omega arith)).1

-- a call under a pass may be made, and unless it is aborted the pass's version is the number's, by the keeper's phase
pub call_named : {Call Reply : Type 0} (versions : ℕ) (log : List (Entry Call Reply)) → Alternates kind_of versions 0 0 log → (pass : Pass) (number version : ℕ) (phase : Phase) → pass ≡ Inside number version → phase ≡ phase_of log
    → IsAllowed kind_of pass log → IsNamed kind_of pass log → MayCall phase (greatest_forced log) number × (is_aborted phase number ≡ false → version ≡ version_at phase number)
call_named versions log alternates pass number version phase inside phase_is allowed named =
    let allowed' = subst (λ (p : Pass). IsAllowed kind_of p log) inside allowed in
    let named' = subst (λ (p : Pass). IsNamed kind_of p log) inside named in (
      subst (λ (f : ℕ). MayCall phase f number) (sym (forced_is log)) (subst (λ (p : Phase). MayCall p (forced_in kind_of log) number) (sym phase_is) (may_call kind_of versions log alternates number version allowed' named')),
      subst (λ (p : Phase). is_aborted p number ≡ false → version ≡ version_at p number) (sym phase_is) (version_in_force kind_of versions log alternates number version allowed' named'),
    )

-- a call that is well formed, said of equal decisions, an equal state and an equal caller
pub formed_as : {Decider State Call : Type 0} (formed : Decisions → State → ℕ → Call → Type 0) (decides : Decider → Decisions) (e e' : Decider) (o o' : State) (n n' : ℕ) (call : Call)
    → e ≡ e' → o ≡ o' → n ≡ n' → formed (decides e) o n call → formed (decides e') o' n' call
formed_as formed decides e e' o o' n n' call p q r is =
    subst (λ (x : _). formed (decides x) o' n' call) p (subst (λ (x : _). formed (decides e) x n' call) q (subst (λ (x : ℕ). formed (decides e) o x call) r is))
