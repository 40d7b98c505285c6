-- What a keeper keeps.
use Rattle.std.specs.Prelude.{◌≡◌, ℕ, ◌<◌, Bool, true, false, nat_lt, List, length, Option, if◌then◌else◌}
use Rattle.access_vectors.specs.Decisions.{Decisions}
use Rattle.access_vectors.specs.Phases.{AreVersions}
use Rattle.access_vectors.specs.Stale.{Follows, Pair, stale_slots}
use Rattle.access_vectors.specs.declared.class.Class.{Class}
use Rattle.access_vectors.specs.declared.phase.Phase.{Phase}
use Rattle.access_vectors.specs.declared.phase.Phase.TheVariants.{Settled, Pending}
use Rattle.manager_history.specs.declared.entry.Entry.{Entry}
use Rattle.manager_history.specs.declared.answers.Ack.{Ack}
use Rattle.manager_history.specs.declared.answers.Ack.TheVariants as acks
use Rattle.manager_history.specs.Answers.{Manager}
use Rattle.manager_history.specs.Histories.{moment, start_of, replay, greatest_forced, IsLawful}

-- what contracts see of a keeper: the core, the decider, the manager's number, the phase, and the history, oldest first
pub record KeeperView (Core Decider Call Reply : Type 0) : Type 0 where
  pub core : Core
  pub decider : Decider
  pub manager : ℕ
  pub phase : Phase
  pub history : List (Entry Call Reply)

-- the slots of a keeper that its pending change leaves stale, by what its core means, least client and then least slot first
abbrev pub stale_in : {Core Decider Call Reply State : Type 0} → Decisions → Class → (State → ℕ → Option Pair)
    → (Core → State) → (Core → Follows) → KeeperView Core Decider Call Reply → List ℕ
stale_in d class pair_of state follows kept = stale_slots d class kept.phase (pair_of (state kept.core)) (follows kept.core)

-- while a change is pending there is room for its acknowledgement
abbrev pub HasPlace : Phase → ℕ → ℕ → Type 0
HasPlace (Settled settled version) count room = Unit {0}
HasPlace (Pending pending old new) count room = count < room

-- the promise of a keeper: its history is lawful from the opening, its state and its phase are the replay of the history,
-- and while a change is pending the place of the acknowledgement is spare
pub record IsKept {Call Reply State : Type 0} (d : Decisions) (plain : Manager Call Reply State)
    (formed : Decisions → State → ℕ → Call → Type 0) (opening state : State) (phase : Phase)
    (history : List (Entry Call Reply)) (room : ℕ) : Type 0 where
  pub replayed : replay plain d (start_of opening) history ≡ moment state phase (greatest_forced history)
  pub lawful : IsLawful plain formed d (start_of opening) history
  pub versions : AreVersions d.versions phase
  pub spare : HasPlace phase (length history) room

-- what an acknowledgement answers, by the passes that it waits for and the stale slots
abbrev pub ack_answer : Phase → ℕ → ℕ → ℕ → Ack
ack_answer (Settled settled version) manager older stale = acks.Idle
ack_answer (Pending pending old new) manager older stale =
    if nat_lt 0 older then acks.Busy older
    else if nat_lt 0 stale then acks.Behind stale
    else acks.Done (record { manager = manager; number = pending })

-- what a forced acknowledgement answers, by the stale slots: it waits for no pass
abbrev pub force_answer : Phase → ℕ → ℕ → Ack
force_answer phase manager stale = ack_answer phase manager 0 stale

-- the change is acknowledged
abbrev pub is_done : Ack → Bool
is_done (acks.Done receipt) = true
is_done _ = false
