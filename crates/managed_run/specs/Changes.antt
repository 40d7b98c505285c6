-- What the administrator of a station knows after a step of a policy change.
use Rattle.std.specs.Prelude.{◌≡◌, ℕ, ◌+◌, ◌≤◌, Bool, true, false, List, [], ◌∷◌, ◌++◌, length, All, Option, Some, None, if◌then◌else◌}
use Rattle.access_vectors.specs.Notices.{notice_fault}
use Rattle.access_vectors.specs.Phases.{number_of, version_at, is_pending}
use Rattle.manager_history.specs.Histories.{acknowledgement}
use Rattle.manager_history.specs.Kept.{ack_answer, is_done}
use Rattle.manager_history.specs.declared.answers.Ack.{Ack}
use Rattle.manager_history.specs.declared.answers.Ack.TheVariants as acks
use Rattle.manager_history.specs.declared.entry.Entry.{Entry}
use Rattle.manager_history.specs.declared.entry.Entry.TheVariants as entry
use Rattle.gate_rule.specs.declared.view.Item.{Item}
use Rattle.gate_rule.specs.History.{controls, StartsWith}
use Rattle.gate_rule.specs.Views.{leave_word, done, entries_of}
use Rattle.epoch_gate.specs.Calls as counts
use Rattle.epoch_gate.specs.Seats.{SeatView}
use Rattle.epoch_gate.specs.Known.{seen_by, step_before, found_before, found_last, older_shown, seats_made, seats_retired, current_number, current_version, passes_counted, cleared_below, stale_found, stale_left, slots_given, turns_had}
use Rattle.managed_run.specs.Kinds.{kind_of, phase_of}

-- a count that is not told is 0
abbrev pub or_none : Option ℕ → ℕ
or_none None = 0
or_none (Some older) = older

-- a turn found no stale slot, and counted no older pass
pub record IsClear {E : Type 0} (item : Item E) : Type 0 where
  pub found : item.found ≡ 0
  pub older : or_none item.looked ≡ 0

-- each of these used slots, told by its place and its number, follows that number
abbrev pub AllFollow : ℕ → List (ℕ × ℕ) → Type 0
AllFollow number slots = All (λ slot. slot.1 ≡ number) slots

-- where passes were to be counted they were, by one load of the counter of the other parity, which shows so many; else there was no step, and none
abbrev pub HasLooked : {E D O : Type 0} → Bool → ℕ → SeatView E D O → SeatView E D O → Type 0
HasLooked true older a b =
    counts.HasCounted a b × (older + found_last b ≡ passes_counted a) × (older_shown b ≡ Some older) × (older ≡ 0 → cleared_below b ≡ current_number a)
    × (older + length (seats_retired a) ≤ seats_made a)
HasLooked false older a b = (older ≡ 0) × (b ≡ a)

-- what was seen, the turns had, the seats made and retired, the current number with its version, and the stale slots found are as before
pub record KeepsDesk {E D O : Type 0} (a b : SeatView E D O) : Type 0 where
  pub seen : seen_by b ≡ seen_by a
  pub turns : turns_had b ≡ turns_had a
  pub made : seats_made b ≡ seats_made a
  pub retired : seats_retired b ≡ seats_retired a
  pub current : current_number b ≡ current_number a
  pub at_version : current_version b ≡ current_version a
  pub found : stale_found b ≡ stale_found a

-- passes are counted while a change is pending, unless the acknowledgement is forced
abbrev pub counts_passes : Bool → Bool → Bool
counts_passes pending false = pending
counts_passes pending true = false

module _ {Call Reply : Type 0} where
  -- the entries that an acknowledgement adds, none or its own; and the entry of its item
  abbrev pub entries_if : Bool → Entry Call Reply → List (Entry Call Reply)
  entries_if false e = []
  entries_if true e = e ∷ []

  abbrev pub item_if : Bool → Entry Call Reply → Option (Entry Call Reply)
  item_if false e = None
  item_if true e = Some e

module _ {Call Reply D O : Type 0} where
  -- the history that a turn of the administrator found: what was seen before is its beginning, its notices and
  -- acknowledgements are those of the turns before, which had all been seen, and while no seat was made, or nothing was
  -- pending, no slot was stale
  pub record HasFound (before : List (Entry Call Reply)) (a b : SeatView (Entry Call Reply) D O) : Type 0 where
    pub begins : StartsWith before (seen_by a)
    pub changes : controls kind_of before ≡ entries_of (turns_had a)
    pub known : controls kind_of (seen_by a) ≡ entries_of (turns_had a)
    pub clear : seats_made a ≡ 0 → stale_found b ≡ 0
    pub rests : is_pending (phase_of before) ≡ false → stale_found b ≡ 0

  -- the turn is told by one item more: the entry that it added, the older passes that it showed, and the stale slots that it
  -- found and left
  abbrev pub HasTurned : Option (Entry Call Reply) → Option ℕ → SeatView (Entry Call Reply) D O → SeatView (Entry Call Reply) D O → Type 0
  HasTurned added looked a b = turns_had b ≡ turns_had a ++ (record { entry = added; looked = looked; found = stale_found b; left = stale_left b }) ∷ []

  -- a change was begun: over the history found there was no fault; behind it stands the notice of the next number, which is the
  -- current one now, with this version
  pub record HasNotified (versions most version number : ℕ) (a b : SeatView (Entry Call Reply) D O) : Type 0 where
    pub before : List (Entry Call Reply)
    pub found : HasFound before a b
    pub allowed : notice_fault (phase_of before) versions version most ≡ None
    pub number_is : number ≡ number_of (phase_of before) + 1
    pub seen : seen_by b ≡ before ++ entry.Notice number version ∷ []
    pub turn : HasTurned (Some (entry.Notice number version)) None a b
    pub current : current_number b ≡ number
    pub at_version : current_version b ≡ version

  -- the turn added nothing and counted no passes, and the current number and its version are as before
  pub record HasTurnedNone (a b : SeatView (Entry Call Reply) D O) : Type 0 where
    pub found : HasFound (seen_by b) a b
    pub turn : HasTurned None None a b
    pub current : current_number b ≡ current_number a
    pub at_version : current_version b ≡ current_version a

  -- where passes are to be counted, the step before the last was a load of the leave counter of the other parity than the
  -- current number's, and so many of the passes counted had not left, which are no more than the seats; else none were counted
  abbrev pub HasCounted : Bool → ℕ → Option ℕ → SeatView (Entry Call Reply) D O → SeatView (Entry Call Reply) D O → Type 0
  HasCounted true older looked a b =
      (looked ≡ Some older) × (step_before b ≡ done (leave_word (current_number a + 1)) (found_before b) (found_before b)) × (older + found_before b ≡ passes_counted a)
      × (older + length (seats_retired a) ≤ seats_made a)
  HasCounted false older looked a b = (looked ≡ None) × (older ≡ 0)

  -- an acknowledgement, forced or not: it answers by the history that its turn found, the older passes that its own load showed
  -- and the stale slots that were found. Done adds its entry and lets every used slot follow the number, and each answer leaves
  -- as many slots stale as were found. Where one that is not forced is done, no pass below the number is out but those below a
  -- forced one
  pub record HasAcknowledged (forced : Bool) (manager : ℕ) (answer : Ack) (a b : SeatView (Entry Call Reply) D O) : Type 0 where
    pub before : List (Entry Call Reply)
    pub found : HasFound before a b
    pub older : ℕ
    pub looked : Option ℕ
    pub counted : HasCounted (counts_passes (is_pending (phase_of before)) forced) older looked a b
    pub answer_is : answer ≡ ack_answer (phase_of before) manager older (stale_found b)
    pub seen : seen_by b ≡ before ++ entries_if (is_done answer) (acknowledgement forced (number_of (phase_of before)))
    pub turn : HasTurned (item_if (is_done answer) (acknowledgement forced (number_of (phase_of before)))) looked a b
    pub left : stale_left b ≡ stale_found b
    pub cleared : forced ≡ false → is_done answer ≡ true → cleared_below b ≡ number_of (phase_of before)
    pub given : is_done answer ≡ true → AllFollow (number_of (phase_of before)) (slots_given b)
    pub current : current_number b ≡ current_number a
    pub at_version : current_version b ≡ current_version a

  -- the change is settled: over the history found it was pending under this number, behind which its acknowledgement stands; the item of the
  -- turn has that entry, no older pass was shown and no slot was stale, before or after; unless it is forced no pass below the
  -- number is out; and every used slot follows the number
  pub record HasSettled (forced : Bool) (number : ℕ) (a b : SeatView (Entry Call Reply) D O) : Type 0 where
    pub before : List (Entry Call Reply)
    pub begins : StartsWith before (seen_by a)
    pub pending : is_pending (phase_of before) ≡ true
    pub number_is : number_of (phase_of before) ≡ number
    pub seen : seen_by b ≡ before ++ acknowledgement forced number ∷ []
    pub turn : turns_had b ≡ turns_had a ++ (record { entry = Some (acknowledgement forced number); looked = if forced then None else Some 0; found = 0; left = 0 }) ∷ []
    pub cleared : forced ≡ false → cleared_below b ≡ number
    pub follow : AllFollow number (slots_given b)

  -- an answer of done is a receipt of this manager, and the change is settled under the number that it names
  abbrev pub IsSettled : Bool → ℕ → Ack → SeatView (Entry Call Reply) D O → SeatView (Entry Call Reply) D O → Type 0
  IsSettled forced manager (acks.Done receipt) a b = (receipt.manager ≡ manager) × HasSettled forced receipt.number a b
  IsSettled forced manager answer a b = Unit {0}

  -- the current number is the newest of the history seen, which is the pending one while one is pending, with that number's version
  pub record IsCurrent (a : SeatView (Entry Call Reply) D O) : Type 0 where
    pub number : current_number a ≡ number_of (phase_of (seen_by a))
    pub version : current_version a ≡ version_at (phase_of (seen_by a)) (current_number a)

  -- where no seat was made and each turn so far was clear, so is this one
  abbrev pub StaysClear : SeatView (Entry Call Reply) D O → SeatView (Entry Call Reply) D O → Type 0
  StaysClear a b = seats_made a ≡ 0 → All IsClear (turns_had a) → All IsClear (turns_had b)

  -- the seats made and retired are as before
  pub record KeepsSeats (a b : SeatView (Entry Call Reply) D O) : Type 0 where
    pub made : seats_made b ≡ seats_made a
    pub retired : seats_retired b ≡ seats_retired a
