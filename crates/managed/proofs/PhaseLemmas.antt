-- What a manager keeps as the phase goes on.
use Rattle.std.proofs.Common.{◌≡◌, ◌≢◌, ◌<◌, ◌≤◌, ◌+◌, ℕ, Bool, true, false, List, [], ◌∷◌, ◌++◌, Option, Some, None, Result, Ok, Err, refl, sym, ap, ◌∙◌, arith}
use Rattle.std.specs.Prelude.{IfOk, OnOk, OnErr, if◌then◌else◌, max, nat_lt, ◌==◌}
use Rattle.std.proofs.lemmas.Bool.Decides.{nat_tests}
use Rattle.access_vectors.specs.Phases.{number_of, settled_number, version_at, noticed, acknowledged, AreVersions}
use Rattle.access_vectors.proofs.ForcedLemmas.{forced_push}
use Rattle.access_vectors.specs.declared.phase.Phase.{Phase}
use Rattle.access_vectors.specs.declared.phase.Phase.TheVariants.{Settled, Pending}
use Rattle.manager_history.specs.Histories.{acknowledgement, forced_of, greatest_forced}
use Rattle.manager_history.specs.Passing.{count_at}
use Rattle.manager_history.specs.declared.entry.Entry.{Entry}
use Rattle.manager_history.specs.declared.entry.Entry.TheVariants as entry
use Rattle.access_vectors.specs.Notices.{notice_fault}
use Rattle.manager_history.specs.Kept.{KeeperView, ack_answer, is_done}
use Rattle.access_vectors.specs.declared.change.NotifyFault.{NotifyFault}
use Rattle.access_vectors.specs.declared.change.NotifyFault.TheVariants as faults
use Rattle.manager_history.specs.declared.answers.Ack.{Ack}
use Rattle.manager_history.specs.declared.answers.Ack.TheVariants as acks
use Rattle.managed.specs.Posts.{AreNamed}
use Rattle.managed.proofs.NamedLemmas.{all_noticed, all_acknowledged, all_forced}

-- the version of a number that may be named is one of the decider's
pub version_below : (versions : ℕ) (phase : Phase) (number : ℕ) → AreVersions versions phase → version_at phase number < versions
version_below versions (Settled settled version) number are = are
version_below versions (Pending pending old new) number are =
    elim (number == pending) as (λ (b : Bool). (if b then new else old) < versions) [ true ↦ are.2 | false ↦ are.1 ]

-- what a manager keeps of phase, greatest forced number and passes
pub record KeepsPhase (versions most : ℕ) (phase : Phase) (forced : ℕ) (held : List (Option ℕ)) : Type 0 where
  pub named : AreNamed phase forced held
  pub few : number_of phase ≤ most
  pub versions_below : AreVersions versions phase

-- a notice forces no number
pub forced_noticed : {Call Reply : Type 0} (said : Result ℕ NotifyFault) (old new : List (Entry Call Reply)) (version : ℕ)
    → IfOk said (λ number. new ≡ old ++ entry.Notice number version ∷ []) → OnErr said (new ≡ old) → greatest_forced new ≡ greatest_forced old
forced_noticed (Ok number) old new version added same = ap greatest_forced added ∙ forced_push forced_of old (entry.Notice number version)
forced_noticed (Err fault) old new version added same = ap greatest_forced same

-- an acknowledgement forces its own number, or none
pub forced_acknowledged : {Call Reply : Type 0} (forcing : Bool) (old new : List (Entry Call Reply)) (number : ℕ) → new ≡ old ++ acknowledgement forcing number ∷ []
    → greatest_forced new ≡ (if forcing then max (greatest_forced old) number else greatest_forced old)
forced_acknowledged true old new number added = ap greatest_forced added ∙ forced_push forced_of old (entry.Forced number)
forced_acknowledged false old new number added = ap greatest_forced added ∙ forced_push forced_of old (entry.Ack number)

-- a notice against which nothing speaks
allowed_notice : (versions most settled old version : ℕ) → notice_fault (Settled settled old) versions version most ≡ None → (version < versions) × (settled ≢ most)
allowed_notice versions most settled old version =
    elim (nat_lt version versions) as (λ (b : Bool). nat_lt version versions ≡ b → (if b then (if settled == most then Some faults.Spent else None) else Some faults.NoVersion) ≡ None → (version < versions) × (settled ≢ most)) [
      | true ↦ λ is. elim (settled == most) as (λ (b : Bool). (settled == most) ≡ b → (if b then Some faults.Spent else None) ≡ None → (version < versions) × (settled ≢ most)) [
        | true ↦ λ same e. cc
        | false ↦ λ apart e. (grind (arith, nat_tests), grind (arith, nat_tests))
      ] refl
      | false ↦ λ is e. cc
    ] refl

-- a keeper that is as before is in the phase that it was in, and has the history that it had
pub as_before_phase : {Core Decider Call Reply : Type 0} (old new : KeeperView Core Decider Call Reply) (said : Result ℕ NotifyFault) → OnErr said (new ≡ old) → OnErr said (new.phase ≡ old.phase)
as_before_phase old new (Ok number) same = tt
as_before_phase old new (Err fault) same = ap (λ k. k.phase) same

pub as_before_history : {Core Decider Call Reply : Type 0} (old new : KeeperView Core Decider Call Reply) (said : Result ℕ NotifyFault) → OnErr said (new ≡ old) → OnErr said (new.history ≡ old.history)
as_before_history old new (Ok number) same = tt
as_before_history old new (Err fault) same = ap (λ k. k.history) same

-- after a notice
pub noticed_keeps : (said : Result ℕ NotifyFault) (versions most : ℕ) (phase next : Phase) (forced : ℕ) (held : List (Option ℕ)) (version : ℕ) → KeepsPhase versions most phase forced held → IfOk said (λ number. next ≡ noticed phase number version) → IfOk said (λ number. number ≡ number_of phase + 1) → OnOk said (notice_fault phase versions version most ≡ None) → OnErr said (next ≡ phase) → KeepsPhase versions most next forced held
noticed_keeps (Err fault) versions most phase next forced held version keeps at number allowed same = rw same keeps
noticed_keeps (Ok number) versions most (Pending pending old new) next forced held version keeps at is allowed same = cc
noticed_keeps (Ok number) versions most (Settled settled old) next forced held version keeps at is allowed same =
    let may = allowed_notice versions most settled old version allowed in
    rw at (record {
      named = all_noticed settled old number version forced held is keeps.named;
      few = omega (arith, may.1, keeps.few);
      versions_below = (omega arith, keeps.versions_below, may.0);
    })

-- an answer to an acknowledgement while a change is pending
pub data Answered (manager pending older stale : ℕ) (ack : Ack) : Type 0 where
  Waits : (nat_lt 0 older ≡ true) → (ack ≡ acks.Busy older) → Answered manager pending older stale ack
  Lags : (older ≡ 0) → (ack ≡ acks.Behind stale) → Answered manager pending older stale ack
  Does : (older ≡ 0) → (stale ≡ 0) → (ack ≡ acks.Done (record { manager = manager; number = pending })) → Answered manager pending older stale ack

pub answered_by : (ack : Ack) (manager pending old new older stale : ℕ) → ack ≡ ack_answer (Pending pending old new) manager older stale → Answered manager pending older stale ack
answered_by ack manager pending old new older stale =
    elim (nat_lt 0 older) as (λ (b : Bool). nat_lt 0 older ≡ b → ack ≡ (if b then acks.Busy older else (if nat_lt 0 stale then acks.Behind stale else acks.Done (record { manager = manager; number = pending }))) → Answered manager pending older stale ack) [
      | true ↦ λ is e. Waits is e
      | false ↦ λ is. elim (nat_lt 0 stale) as (λ (b : Bool). nat_lt 0 stale ≡ b → ack ≡ (if b then acks.Behind stale else acks.Done (record { manager = manager; number = pending })) → Answered manager pending older stale ack) [
        | true ↦ λ some e. Lags (grind (arith, nat_tests)) e
        | false ↦ λ none e. Does (grind (arith, nat_tests)) (grind (arith, nat_tests)) e
      ] refl
    ] refl

-- after an acknowledgement, forced or not: where it is not forced it waits for the passes of the settled number
pub acknowledged_keeps : (forcing : Bool) (ack : Ack) (versions most : ℕ) (phase next : Phase) (forced greatest : ℕ) (held : List (Option ℕ)) (manager older stale pending old new : ℕ) → phase ≡ Pending pending old new
    → KeepsPhase versions most phase forced held → ack ≡ ack_answer phase manager older stale → (forcing ≡ false → older ≡ count_at (settled_number phase) held)
    → (is_done ack ≡ true → next ≡ acknowledged phase) → (is_done ack ≡ false → next ≡ phase)
    → (is_done ack ≡ true → greatest ≡ (if forcing then max forced (number_of phase) else forced)) → (is_done ack ≡ false → greatest ≡ forced)
    → KeepsPhase versions most next greatest held
acknowledged_keeps forcing ack versions most phase next forced greatest held manager older stale pending old new at keeps answer count done undone rises stays =
    elim (answered_by ack manager pending old new older stale (rw at at answer)) as (λ a. KeepsPhase versions most next greatest held) [
      | Waits some is ↦ rw (undone (ap is_done is), stays (ap is_done is)) keeps
      | Lags none is ↦ rw (undone (ap is_done is), stays (ap is_done is)) keeps
      | Does none zero is ↦
          let was : KeepsPhase versions most (Pending pending old new) forced held = rw at at keeps in
          rw (done (ap is_done is), rw at at rises (ap is_done is), at) (record {
            named = named was forcing none count;
            few = was.few;
            versions_below = was.versions_below.2;
          })
    ]
  where
    named : KeepsPhase versions most (Pending pending old new) forced held → (f : Bool) → older ≡ 0 → (f ≡ false → older ≡ count_at (settled_number phase) held)
        → AreNamed (Settled pending new) (if f then max forced pending else forced) held
    named was true none count = all_forced pending old new forced held was.named
    named was false none count = all_acknowledged pending old new forced held (rw at at (sym (count refl) ∙ none)) was.named
