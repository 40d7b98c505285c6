-- What calls and changes of policy answer on ledgers, and what the caller and the administrator know after them.
use Rattle.std.specs.Prelude.{◌≡◌, ℕ, ◌+◌, ◌<◌, true, false, List, [], ◌∷◌, ◌++◌, Option, Some, None}
use Rattle.access_vectors.specs.declared.phase.Phase.{Phase}
use Rattle.access_vectors.specs.Phases.{number_of, is_pending}
use Rattle.gate_rule.specs.declared.view.Item.{Item}
use Rattle.gate_rule.specs.History.{phase_in, StartsWith}
use Rattle.gate_rule.specs.Views.{leave_word, done, traced}
use Rattle.epoch_gate.specs.Calls.{HasHadTurn}
use Rattle.epoch_gate.specs.Seats.{SeatView}
use Rattle.epoch_gate.specs.Known.{seen_by, last_step, step_before, found_before, current_number, current_version, passes_counted, cleared_below, turns_had}
use Rattle.gate_ledger.specs.declared.ledger.Line.{Line}
use Rattle.gate_ledger.specs.declared.ledger.Line.TheVariants.{Noticed, Settled}
use Rattle.access_vectors.specs.Notices.{notice_fault}
use Rattle.gate_ledger.specs.declared.change.Acknowledged.{Acknowledged}
use Rattle.gate_ledger.specs.declared.change.Acknowledged.TheVariants.{Done, Busy, Idle}
use Rattle.gate_ledger.specs.Lines.{kind_of}

-- where the policy change stands after a list of lines
abbrev pub phase_after : List Line → Phase
phase_after lines = phase_in kind_of lines

-- the item of a turn over ledgers, which have no stale slots
abbrev pub turn_of : Option Line → Option ℕ → Item Line
turn_of entry looked = record { entry = entry; looked = looked; found = 0; left = 0 }

module _ {D O : Type 0} where
  -- one more turn, which added this line and showed so many older passes
  abbrev pub HasTurned : Option Line → Option ℕ → SeatView Line D O → SeatView Line D O → Type 0
  HasTurned entry looked a b = turns_had b ≡ turns_had a ++ turn_of entry looked ∷ []

  -- the turn added this line behind these ones, of which those seen before are the beginning
  abbrev pub HasAdded : List Line → Line → SeatView Line D O → SeatView Line D O → Type 0
  HasAdded lines line a b = StartsWith lines (seen_by a) × (seen_by b ≡ lines ++ line ∷ [])

  -- the turn added no line, and what was seen before is how the lines that it found begin
  abbrev pub HasAddedNone : SeatView Line D O → SeatView Line D O → Type 0
  HasAddedNone a b = StartsWith (seen_by b) (seen_by a)

  -- one turn was had, and between taking it and passing it on there was no step
  abbrev pub HasTurnAlone : SeatView Line D O → SeatView Line D O → Type 0
  HasTurnAlone s t = (turn : HasHadTurn s t) × (t.view.trace ≡ traced turn.taken (last_step t))

  -- a call: its line stands behind those that the turn found
  abbrev pub HasCalled : Line → SeatView Line D O → SeatView Line D O → Type 0
  HasCalled line s t = (lines : List Line) × HasAdded lines line s t

  -- the step before the last was a load of the counter of the older number, and so many of the passes that were counted had not left
  abbrev pub HasShown : ℕ → SeatView Line D O → SeatView Line D O → Type 0
  HasShown older a b = (step_before b ≡ done (leave_word (current_number a + 1)) (found_before b) (found_before b)) × (older + found_before b ≡ passes_counted a)

  -- a change was begun: behind the lines found, over which there was no fault, stands the notice of the next number, which is the current one now
  abbrev pub HasNotified : ℕ → ℕ → ℕ → ℕ → SeatView Line D O → SeatView Line D O → Type 0
  HasNotified versions version most number a b =
      (lines : List Line) × (notice_fault (phase_after lines) versions version most ≡ None) × (number ≡ number_of (phase_after lines) + 1)
      × HasAdded lines (Noticed number version) a b × HasTurned (Some (Noticed number version)) None a b
      × (current_number b ≡ number) × (current_version b ≡ version)

  -- no change was begun: the turn added nothing, and number and version are as before
  abbrev pub HasNotNotified : SeatView Line D O → SeatView Line D O → Type 0
  HasNotNotified a b = HasAddedNone a b × HasTurned None None a b × (current_number b ≡ current_number a) × (current_version b ≡ current_version a)

  -- done: over the lines found a change was pending and the load showed no older pass; behind them stands its acknowledgement, and nothing below its number is left.
  -- Busy: over the lines found a change was pending, and the load showed so many.
  -- Idle: over the lines found nothing was pending, and the turn showed nothing
  abbrev pub HasAnswered : Acknowledged → SeatView Line D O → SeatView Line D O → Type 0
  HasAnswered (Done number) a b =
      (lines : List Line) × (is_pending (phase_after lines) ≡ true) × (number_of (phase_after lines) ≡ number)
      × HasShown 0 a b × HasAdded lines (Settled number) a b × HasTurned (Some (Settled number)) (Some 0) a b
      × (current_number b ≡ number) × (cleared_below b ≡ number)
  HasAnswered (Busy older) a b = (is_pending (phase_after (seen_by b)) ≡ true) × (0 < older) × HasShown older a b × HasAddedNone a b × HasTurned None (Some older) a b
  HasAnswered Idle a b = (is_pending (phase_after (seen_by b)) ≡ false) × HasAddedNone a b × HasTurned None None a b

  -- for want of memory nothing was added: a change was pending, and the load showed no older pass
  abbrev pub HasNoRoom : SeatView Line D O → SeatView Line D O → Type 0
  HasNoRoom a b = (is_pending (phase_after (seen_by b)) ≡ true) × HasShown 0 a b × HasAddedNone a b × HasTurned None (Some 0) a b
