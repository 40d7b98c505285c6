-- What each call of a gate leaves of a seat or of the administrator.
use Rattle.std.specs.Prelude.{◌≡◌, ◌≢◌, ℕ, zero, suc, ◌≤◌, ◌%◌, false, List, [], ◌∷◌, ◌++◌, if◌then◌else◌, Option, Some, None}
use mathlib.Core.Option.{some}
use lib.ListN.{get_elem?}
use Rattle.atomic_table.specs.Table.{State}
use Rattle.access_vectors.specs.Decisions.{Decisions}
use Rattle.gate_rule.specs.declared.journal.Terms.{Terms}
use Rattle.gate_rule.specs.declared.view.Role.TheVariants.{Caller, Admin}
use Rattle.gate_rule.specs.declared.view.Ticket.TheVariants.{Drawn}
use Rattle.gate_rule.specs.declared.view.Item.{Item}
use Rattle.gate_rule.specs.declared.view.Key.{Key}
use Rattle.gate_rule.specs.declared.view.Trace.{Trace}
use Rattle.gate_rule.specs.declared.view.View.{View}
use Rattle.gate_rule.specs.History.{Kind, last_notice, StartsWith}
use Rattle.gate_rule.specs.Meaning.{Means}
use Rattle.gate_rule.specs.Rule.{RuleHolds, IsOf, fixed_of}
use Rattle.gate_rule.specs.Tickets.{word_of}
use Rattle.gate_rule.specs.Rows.{key_word, key_row, shows}
use Rattle.gate_rule.specs.Views as views
use Rattle.gate_rule.specs.Views.{number_in, one_more, done, traced, with_seat, new_seat, first_seat, with_ended, glanced}
use Rattle.gate_rule.specs.Told.{ManagerView, Closes, Learns, LearnsAdmin, Grows}
use Rattle.epoch_gate.specs.Seats.{SeatView, Site}
use Rattle.epoch_gate.specs.Known.{seen_by, caller_number, pass_held, pass_number, quota_left, keys_served, last_step, found_last}
use Rattle.epoch_gate.specs.Known.{current_number, current_version, passes_counted, cleared_below, seats_made, seats_retired, turns_had}

-- a trace with so many looks more at the ticket served, none of which showed this ticket
abbrev pub HasMissed : Trace → ℕ → ℕ → Trace → Type 0
HasMissed drawn ticket zero after = after ≡ drawn
HasMissed drawn ticket (suc misses) after = (t : Trace) × HasMissed drawn ticket misses t × (found : ℕ) × (found ≢ ticket) × (after ≡ traced t (done 4 found found))

-- looks that missed, if there were any, and then one that showed the ticket
abbrev pub HasLookedUntil : Trace → ℕ → Trace → Type 0
HasLookedUntil drawn ticket after = (misses : ℕ) × (t : Trace) × HasMissed drawn ticket misses t × (after ≡ traced t (done 4 ticket ticket))

-- the vector that a word shows of a key under a number, if it is such a row
abbrev pub shown_vector : ℕ → Key → ℕ → Option ℕ
shown_vector n key w = if shows n key w then Some (w % 65536) else None

module _ {E D O : Type 0} where
  -- how a seat waits for the turn: it draws a ticket, and looks at the ticket served until that is its own
  abbrev pub HasWaited : SeatView E D O → SeatView E D O → Type 0
  HasWaited s t = let ticket = word_of t.view.ticket in HasLookedUntil (traced s.view.trace (done 3 ticket (one_more ticket))) ticket t.view.trace

  -- the pass was given back, by one step on the counter of its number's parity
  abbrev pub HasLeft : SeatView E D O → SeatView E D O → Type 0
  HasLeft s t = t.view ≡ views.left s.view (found_last t)

  -- the key's row was looked at, and the key was served if the row shows it under the pass's number
  abbrev pub HasLooked : Key → SeatView E D O → SeatView E D O → Type 0
  HasLooked key s t = t.view ≡ views.saw_row key s.view (key_word key) (found_last t)

  -- the last step was a look at the key's row, which did not show the key under the pass's number
  abbrev pub HasMissedRow : Key → SeatView E D O → Type 0
  HasMissedRow key s = (last_step s ≡ done (key_word key) (found_last s) (found_last s)) × (shows (pass_number s) key (found_last s) ≡ false)

  -- the key's row was filled with a vector, under the pass's number
  abbrev pub HasFilled : Key → ℕ → SeatView E D O → SeatView E D O → Type 0
  HasFilled key vector s t = t.view ≡ views.filled key s.view (key_word key) (found_last t) (key_row (pass_number s) key vector)

  -- the administrator of a gate that was just made: nothing was done yet
  abbrev pub IsFirst : Site D O → SeatView E D O → Type 0
  IsFirst g a = a.view ≡ first_seat g.fixed

  -- a seat that the administrator made: its number is how many were made before, its quota is whole, and nothing was done yet
  abbrev pub IsNew : SeatView E D O → SeatView E D O → Type 0
  IsNew a s = s.view ≡ new_seat a.view

  -- the administrator made a seat, and glanced at the gate word
  abbrev pub HasMade : SeatView E D O → SeatView E D O → Type 0
  HasMade a b = b.view ≡ glanced (with_seat a.view) (found_last b)

  -- the administrator raised the number, by one step
  abbrev pub HasRaised : SeatView E D O → SeatView E D O → Type 0
  HasRaised a b = b.view ≡ views.raised a.view (found_last b) (last_step b).left

  -- the administrator counted the older passes, by one load of the counter of the other parity
  abbrev pub HasCounted : SeatView E D O → SeatView E D O → Type 0
  HasCounted a b = b.view ≡ views.counted a.view (found_last b)

  -- the administrator retired a seat: it has its entries, and the longer of the two histories seen, and glanced at the gate word
  abbrev pub HasRetired : SeatView E D O → SeatView E D O → SeatView E D O → Type 0
  HasRetired a s b = b.view ≡ glanced (with_ended a.view s.view) (found_last b)

  -- one turn was had: one ticket was drawn, and looked for until it was served; one item was added to the turns; and the last step passed the turn on
  pub record HasHadTurn (s t : SeatView E D O) : Type 0 where
    pub ticket : ℕ
    pub taken : Trace
    pub waited : HasLookedUntil (traced s.view.trace (done 3 ticket (one_more ticket))) ticket taken
    pub item : Item E
    pub once : turns_had t ≡ turns_had s ++ item ∷ []
    pub passed : last_step t ≡ done 4 (found_last t) (one_more (found_last t))

  -- the caller's number, pass, quota and keys served are as before
  pub record IsSameCaller (s t : SeatView E D O) : Type 0 where
    pub number : caller_number t ≡ caller_number s
    pub pass : pass_held t ≡ pass_held s
    pub quota : quota_left t ≡ quota_left s
    pub keys : keys_served t ≡ keys_served s

  -- the seats that the administrator made and retired, its current number with its version, and the passes counted and cleared are as before
  pub record IsSameAdmin (a b : SeatView E D O) : Type 0 where
    pub made : seats_made b ≡ seats_made a
    pub retired : seats_retired b ≡ seats_retired a
    pub number : current_number b ≡ current_number a
    pub version : current_version b ≡ current_version a
    pub counted : passes_counted b ≡ passes_counted a
    pub cleared : cleared_below b ≡ cleared_below a

module _ {E D O : Type 0} (kind : E → Kind) where
  -- the seat entered: it has a pass of the number and version found, one less to enter, and the number is not below the last notice that it has seen
  abbrev pub HasEntered : SeatView E D O → SeatView E D O → Type 0
  HasEntered s t = (t.view ≡ views.entered s.view (found_last t)) × ((last_notice kind (seen_by s)).0 ≤ number_in (found_last t))

  -- a history that a caller may give back: the one seen, with at most one entry more, a call under its own and its pass's number
  abbrev pub ExtendsAsCaller : SeatView E D O → List E → Type 0
  ExtendsAsCaller s log = Grows kind s.view (Caller (caller_number s)) log

  -- a history that the administrator may give back: the one seen, with at most one entry more, an own one; the last notice is that of its current number
  abbrev pub ExtendsAsAdmin : SeatView E D O → List E → Type 0
  ExtendsAsAdmin a log = Grows kind a.view Admin log × (last_notice kind log ≡ (current_number a, current_version a))

module _ {V E D O : Type 0} (M : Means V E D O) where
  -- a value of the gate: its opening and decider are the gate's, its history is one that its type promises, and it is as its type promises
  abbrev pub IsValueOf : Site D O → V → Type 0
  IsValueOf g x = IsOf M g.fixed x

  -- the seat has the turn and the value, and has seen all; how long it waited, its trace tells
  abbrev pub HasTaken : SeatView E D O → SeatView E D O → V → Type 0
  HasTaken s t x = t.view ≡ record (views.took M x s.view (word_of t.view.ticket)) { trace = t.view.trace }

  -- the turn was passed on with the value, by one step
  abbrev pub HasGiven : SeatView E D O → SeatView E D O → V → Type 0
  HasGiven s t y = t.view ≡ views.gave M y s.view (found_last t)

  -- what a caller learns with the turn: what it had seen is how the history begins, its entries are all of its number, and its pass is one that the history allows
  abbrev pub LearnsAsCaller : SeatView E D O → V → Type 0
  LearnsAsCaller s x = StartsWith (M.history x) (seen_by s) × Learns M.kind s.view (Caller (caller_number s)) (M.history x)

  -- what the administrator learns with the turn: what it had seen is how the history begins, and of the history what the rule says that it knows
  abbrev pub LearnsAsAdmin : SeatView E D O → V → Type 0
  LearnsAsAdmin a x = StartsWith (M.history x) (seen_by a) × LearnsAdmin M.kind a.view.admin_view (seen_by a) (M.history x)

  -- what the administrator knows of the value with which the gate ends
  abbrev pub HasClosed : SeatView E D O → V → Type 0
  HasClosed a x = Closes M a.view x

module _ {V E D O : Type 0} (M : Means V E D O) (decides : D → Decisions) where
  -- at the step of the call the table met the whole rule, this view was the seat's, and the word was this one
  abbrev pub StoodAt : Site D O → SeatView E D O → ℕ → ℕ → Type 0
  StoodAt g s word n = ManagerView M decides g.fixed s.view word n

  -- when the turn came the table met the whole rule, the seat's view was the old one with its ticket and what its looks had left of its trace, and its ticket was the one served
  abbrev pub StoodWaiting : Site D O → SeatView E D O → SeatView E D O → Type 0
  StoodWaiting g s t = let ticket = word_of t.view.ticket in (trace : Trace) × ManagerView M decides g.fixed (record s.view { ticket = Drawn ticket; trace = trace }) 4 ticket

  -- once a seat was made the table met the whole rule, the administrator's view was the old one with one seat more, and the glance found the gate word
  abbrev pub StoodMade : Site D O → SeatView E D O → SeatView E D O → Type 0
  StoodMade g a b = ManagerView M decides g.fixed (with_seat a.view) 0 (found_last b)

  -- once a seat was retired the table met the whole rule, the administrator's view was the old one with what the seat knew, and the glance found the gate word
  abbrev pub StoodRetired : Site D O → SeatView E D O → SeatView E D O → SeatView E D O → Type 0
  StoodRetired g a s b = ManagerView M decides g.fixed (with_ended a.view s.view) 0 (found_last b)

  -- at the end the table met the whole rule, and this view was the administrator's
  abbrev pub HasEnded : Site D O → SeatView E D O → Type 0
  HasEnded g a = (k : Terms V D) × (s : State (Option V) (View E D O)) × (id : ℕ) × RuleHolds M decides k s × (fixed_of M k ≡ g.fixed) × (get_elem? s.views id ≡ some a.view)
