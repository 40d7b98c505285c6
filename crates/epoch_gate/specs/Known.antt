-- What a gate, a seat and the administrator know, in words.
use Rattle.std.specs.Prelude.{◌≡◌, ◌≢◌, ℕ, ◌≤◌, true, List, Option, Some}
use Rattle.access_vectors.specs.Decisions.{Decisions}
use Rattle.gate_rule.specs.declared.view.Role.TheVariants.{Caller}
use Rattle.gate_rule.specs.declared.view.Ticket.TheVariants.{Without}
use Rattle.gate_rule.specs.declared.view.Pass.{Pass}
use Rattle.gate_rule.specs.declared.view.Pass.TheVariants.{Out}
use Rattle.gate_rule.specs.declared.view.StepDone.{StepDone}
use Rattle.gate_rule.specs.declared.view.Key.{Key}
use Rattle.gate_rule.specs.declared.view.Item.{Item}
use Rattle.gate_rule.specs.declared.view.Ended.{Ended}
use Rattle.gate_rule.specs.declared.view.Fixed.{Fixed}
use Rattle.gate_rule.specs.History.{Kind, settled_in}
use Rattle.gate_rule.specs.Tickets.{has_turn}
use Rattle.gate_rule.specs.Views as views
use Rattle.gate_rule.specs.Views.{caller_of, number_of}
use Rattle.epoch_gate.specs.Seats.{SeatView, Site, IsInside, IsPassWithin}

module _ {D O : Type 0} where
  -- what decides at the gate
  abbrev pub decider_of : Site D O → D
  decider_of g = g.fixed.decider

  -- how many seats it may have
  abbrev pub seats_allowed : Site D O → ℕ
  seats_allowed g = g.fixed.seats

  -- the greatest policy number that it may have
  abbrev pub greatest_number : Site D O → ℕ
  greatest_number g = g.fixed.most

module _ {E D O : Type 0} where
  -- the history that was at hand when the seat last had the turn
  abbrev pub seen_by : SeatView E D O → List E
  seen_by s = s.view.seen

  -- a caller's own entries
  abbrev pub own_entries : SeatView E D O → List E
  own_entries s = s.view.mine

  -- a caller's number
  abbrev pub caller_number : SeatView E D O → ℕ
  caller_number s = caller_of s.view.role

  -- the seat is the caller's of this number
  abbrev pub IsCallerOf : ℕ → SeatView E D O → Type 0
  IsCallerOf number s = s.view.role ≡ Caller number

  -- the pass that it has, if it has one
  abbrev pub pass_held : SeatView E D O → Pass
  pass_held s = s.view.rights.pass

  -- it has a pass
  abbrev pub HasPass : SeatView E D O → Type 0
  HasPass s = IsInside s.view.rights.pass

  -- it has none
  abbrev pub HasNoPass : SeatView E D O → Type 0
  HasNoPass s = s.view.rights.pass ≡ Out

  -- the number of its pass, or 0
  abbrev pub pass_number : SeatView E D O → ℕ
  pass_number s = number_of s.view.rights.pass

  -- the version of its pass, or 0
  abbrev pub pass_version : SeatView E D O → ℕ
  pass_version s = views.pass_version s.view.rights.pass

  -- how often it may enter yet
  abbrev pub quota_left : SeatView E D O → ℕ
  quota_left s = s.view.rights.quota

  -- it has neither the turn nor a ticket for one
  abbrev pub IsIdle : SeatView E D O → Type 0
  IsIdle s = s.view.ticket ≡ Without

  -- it has the turn
  abbrev pub HasTurn : SeatView E D O → Type 0
  HasTurn s = has_turn s.view.ticket ≡ true

  -- the keys that it was served
  abbrev pub keys_served : SeatView E D O → List Key
  keys_served s = s.view.served

  -- each used slot of the value that it took last: its place, and the policy number that it followed
  abbrev pub slots_followed : SeatView E D O → List (ℕ × ℕ)
  slots_followed s = s.view.follows

  -- how many steps it made
  abbrev pub steps_made : SeatView E D O → ℕ
  steps_made s = s.view.trace.steps

  -- its last step, and the one before
  abbrev pub last_step : SeatView E D O → StepDone
  last_step s = s.view.trace.last

  abbrev pub step_before : SeatView E D O → StepDone
  step_before s = s.view.trace.earlier

  -- what the last step found in its word
  abbrev pub found_last : SeatView E D O → ℕ
  found_last s = s.view.trace.last.found

  -- what the step before the last found in its word
  abbrev pub found_before : SeatView E D O → ℕ
  found_before s = s.view.trace.earlier.found

  -- of the administrator: how many seats it made
  abbrev pub seats_made : SeatView E D O → ℕ
  seats_made a = a.view.admin_view.made

  -- the numbers that it retired, each with its entries
  abbrev pub seats_retired : SeatView E D O → List (Ended E)
  seats_retired a = a.view.admin_view.ended

  -- the current policy number
  abbrev pub current_number : SeatView E D O → ℕ
  current_number a = a.view.admin_view.newest

  -- the version of the current policy number
  abbrev pub current_version : SeatView E D O → ℕ
  current_version a = a.view.admin_view.version

  -- the passes entered under numbers of the other parity than the current one
  abbrev pub passes_counted : SeatView E D O → ℕ
  passes_counted a = a.view.admin_view.counted

  -- no pass below this number is out, but for those below a forced one
  abbrev pub cleared_below : SeatView E D O → ℕ
  cleared_below a = a.view.admin_view.clear

  -- the older passes that were shown in this turn, if they were counted
  abbrev pub older_shown : SeatView E D O → Option ℕ
  older_shown a = a.view.admin_view.looked

  -- how many slots were stale in the value that it took last
  abbrev pub stale_found : SeatView E D O → ℕ
  stale_found a = a.view.admin_view.found

  -- how many were stale in the value that it gave back last
  abbrev pub stale_left : SeatView E D O → ℕ
  stale_left a = a.view.admin_view.left

  -- each used slot of the value that it gave back last: its place, and the policy number that it followed
  abbrev pub slots_given : SeatView E D O → List (ℕ × ℕ)
  slots_given a = a.view.admin_view.given

  -- the turns that a seat had, newest last
  abbrev pub turns_had : SeatView E D O → List (Item E)
  turns_had a = a.view.admin_view.turns

  -- in the history seen the current number is settled
  abbrev pub IsSettled : (E → Kind) → SeatView E D O → Type 0
  IsSettled kind a = settled_in kind (seen_by a) ≡ current_number a

  -- in the history seen the current number is still to be settled
  abbrev pub IsUnsettled : (E → Kind) → SeatView E D O → Type 0
  IsUnsettled kind a = settled_in kind (seen_by a) ≢ current_number a

  -- the administrator made at most as many seats as its gate may have, and its current number is at most the greatest
  abbrev pub IsWithin : SeatView E D O → Type 0
  IsWithin a = (f : Fixed D O) → a.view.fixed ≡ Some f → (seats_made a ≤ f.seats) × (current_number a ≤ f.most)

  -- its pass, if it has one, is within what its gate fixes
  abbrev pub HasPassWithin : (D → Decisions) → SeatView E D O → Type 0
  HasPassWithin decides s = (f : Fixed D O) → s.view.fixed ≡ Some f → IsPassWithin decides f (pass_held s)

  -- the decider's vector of a key for the version of the seat's pass
  abbrev pub vector_for : (D → Decisions) → Site D O → SeatView E D O → Key → ℕ
  vector_for decides g s key = (decides (decider_of g)).vector (pass_version s) key.source key.target key.class

-- how many versions there are at the gate
abbrev pub versions_at : {D O : Type 0} → (D → Decisions) → Site D O → ℕ
versions_at decides g = (decides (decider_of g)).versions
