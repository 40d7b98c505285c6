-- Histories of a manager, and which of them are lawful.
use Rattle.std.specs.Prelude.{◌≡◌, ℕ, ◌+◌, ◌<◌, Bool, List, [], ◌∷◌, Option, Some, None, if◌then◌else◌}
use Rattle.access_vectors.specs.Decisions.{Decisions}
use Rattle.access_vectors.specs.Phases.{version_at, MayName, noticed, acknowledged}
use Rattle.access_vectors.specs.Forced.{forced_to, forced_in, is_aborted, MayAbort}
use Rattle.access_vectors.specs.declared.phase.Phase.{Phase}
use Rattle.access_vectors.specs.declared.phase.Phase.TheVariants.{Settled, Pending}
use Rattle.access_vectors.specs.declared.asked.Asked.{Asked}
use Rattle.manager_history.specs.declared.entry.Entry.{Entry}
use Rattle.manager_history.specs.declared.entry.Entry.TheVariants.{Op, Aborted, Notice, Ack, Forced}
use Rattle.manager_history.specs.declared.answers.Answer as said
use Rattle.manager_history.specs.declared.answers.Answer.TheVariants as saying
use Rattle.manager_history.specs.Answers.{Answer, Manager}

-- a moment of a history: the state that it has led to, the phase, and the greatest forced number
pub record Moment (State : Type 0) : Type 0 where
  pub state : State
  pub phase : Phase
  pub forced : ℕ

-- the moment with that state, that phase and that greatest forced number
abbrev pub moment : {State : Type 0} → State → Phase → ℕ → Moment State
moment state phase forced = record { state = state; phase = phase; forced = forced }

-- the moment before the first entry: the opening state, settled at number 0 with version 0, and no number is forced
abbrev pub start_of : {State : Type 0} → State → Moment State
start_of opening = moment opening (Settled 0 0) 0

-- what the plain manager answers in a state and a phase, under a policy number
abbrev pub answer_at : {Call Reply State : Type 0} → Manager Call Reply State → Decisions → State → Phase → ℕ → Call → ℕ → Answer Reply State
answer_at plain d state phase caller call number = plain d state caller call number (version_at phase number)

-- what a caller is answered: where the number is below the settled one that the call was aborted, and else the plain
-- manager's reply
abbrev pub said_at : {Call Reply State : Type 0} → Manager Call Reply State → Decisions → State → Phase → ℕ → Call → ℕ → said.Answer Reply
said_at plain d state phase caller call number =
    if is_aborted phase number then saying.Aborted else saying.Did (answer_at plain d state phase caller call number).reply

-- the entry of an operation that the plain manager answered
abbrev pub operation : {Call Reply State : Type 0} → ℕ → ℕ → Call → ℕ → Answer Reply State → Entry Call Reply
operation caller mark call number answer = Op caller mark call number answer.asked answer.reply

-- the entry of a call: that it was aborted, or an operation
abbrev pub entry_at : {Call Reply State : Type 0} → Manager Call Reply State → Decisions → State → Phase → ℕ → ℕ → Call → ℕ → Entry Call Reply
entry_at plain d state phase caller mark call number =
    if is_aborted phase number then Aborted caller mark call number
    else operation caller mark call number (answer_at plain d state phase caller call number)

-- the entry of the acknowledgement of a number, forced or not
abbrev pub acknowledgement : {Call Reply : Type 0} → Bool → ℕ → Entry Call Reply
acknowledgement forced number = if forced then Forced number else Ack number

-- the number of a forced acknowledgement
abbrev pub forced_of : {Call Reply : Type 0} → Entry Call Reply → Option ℕ
forced_of (Op caller mark call number asked reply) = None
forced_of (Aborted caller mark call number) = None
forced_of (Notice number version) = None
forced_of (Ack number) = None
forced_of (Forced number) = Some number

-- the greatest forced number of a history, or 0
abbrev pub greatest_forced : {Call Reply : Type 0} → List (Entry Call Reply) → ℕ
greatest_forced history = forced_in forced_of history

-- the phase after an entry
abbrev pub phase_after : {Call Reply : Type 0} → Phase → Entry Call Reply → Phase
phase_after phase (Op caller mark call number asked reply) = phase
phase_after phase (Aborted caller mark call number) = phase
phase_after phase (Notice number version) = noticed phase number version
phase_after phase (Ack number) = acknowledged phase
phase_after phase (Forced number) = acknowledged phase

-- the state after an entry: only an operation changes it
abbrev pub state_after : {Call Reply State : Type 0} → Manager Call Reply State → Decisions → State → Phase → Entry Call Reply → State
state_after plain d state phase (Op caller mark call number asked reply) = (answer_at plain d state phase caller call number).state
state_after plain d state phase (Aborted caller mark call number) = state
state_after plain d state phase (Notice number version) = state
state_after plain d state phase (Ack number) = state
state_after plain d state phase (Forced number) = state

-- the moment after an entry
abbrev pub after : {Call Reply State : Type 0} → Manager Call Reply State → Decisions → Moment State → Entry Call Reply → Moment State
after plain d at entry =
    moment (state_after plain d at.state at.phase entry) (phase_after at.phase entry) (forced_to at.forced (forced_of entry))

-- the moment after a history
abbrev pub replay : {Call Reply State : Type 0} → Manager Call Reply State → Decisions → Moment State → List (Entry Call Reply) → Moment State
replay plain d at [] = at
replay plain d at (entry ∷ entries) = replay plain d (after plain d at entry) entries

-- a notice may come only where no change is pending: its number is the next one, its version one of the decider's
abbrev pub MayNotice : ℕ → Phase → ℕ → ℕ → Type 0
MayNotice versions (Settled settled old) number version = (number ≡ settled + 1) × (version < versions)
MayNotice versions (Pending pending old new) number version = ⊥

-- an acknowledgement, forced or not, may come only where a change is pending, and is of that number
abbrev pub MayAcknowledge : Phase → ℕ → Type 0
MayAcknowledge (Settled settled version) number = ⊥
MayAcknowledge (Pending pending old new) number = number ≡ pending

-- an operation that may stand at a moment: it names a policy number that is in force, its call is well formed, and its
-- questions and its reply are the plain manager's
pub record IsServed {Call Reply State : Type 0} (plain : Manager Call Reply State) (formed : Decisions → State → ℕ → Call → Type 0)
    (d : Decisions) (at : Moment State) (caller : ℕ) (call : Call) (number : ℕ) (asked : List Asked) (reply : Reply) : Type 0 where
  pub named : MayName at.phase number
  pub well_formed : formed d at.state caller call
  pub asked_is : asked ≡ (answer_at plain d at.state at.phase caller call number).asked
  pub reply_is : reply ≡ (answer_at plain d at.state at.phase caller call number).reply

-- an aborted call that may stand at a moment: its policy number is below the settled one and below the greatest forced one,
-- and its call is well formed
pub record IsCutOff {Call State : Type 0} (formed : Decisions → State → ℕ → Call → Type 0) (d : Decisions) (at : Moment State)
    (caller : ℕ) (call : Call) (number : ℕ) : Type 0 where
  pub below : MayAbort at.phase at.forced number
  pub well_formed : formed d at.state caller call

-- an entry may stand at a moment
abbrev pub MayCome : {Call Reply State : Type 0} → Manager Call Reply State → (Decisions → State → ℕ → Call → Type 0)
    → Decisions → Moment State → Entry Call Reply → Type 0
MayCome plain formed d at (Op caller mark call number asked reply) = IsServed plain formed d at caller call number asked reply
MayCome plain formed d at (Aborted caller mark call number) = IsCutOff formed d at caller call number
MayCome plain formed d at (Notice number version) = MayNotice d.versions at.phase number version
MayCome plain formed d at (Ack number) = MayAcknowledge at.phase number
MayCome plain formed d at (Forced number) = MayAcknowledge at.phase number

-- each entry may stand where it stands, from that moment on
abbrev pub IsLawful : {Call Reply State : Type 0} → Manager Call Reply State → (Decisions → State → ℕ → Call → Type 0)
    → Decisions → Moment State → List (Entry Call Reply) → Type 0
IsLawful plain formed d at [] = Unit {0}
IsLawful plain formed d at (entry ∷ entries) = MayCome plain formed d at entry × IsLawful plain formed d (after plain d at entry) entries
