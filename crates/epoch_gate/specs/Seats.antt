-- Gates, seats and the administrator, as contracts see them.
use Rattle.std.specs.Prelude.{◌≡◌, ℕ, ◌<◌, ◌≤◌, List, [], ◌∷◌, length, Option, Some, None}
use Rattle.atomic_table.specs.Table.{Me}
use Rattle.atomic_table.specs.Seated.{TableId}
use Rattle.access_vectors.specs.Decisions.{Decisions}
use Rattle.gate_rule.specs.declared.view.Role.{Role}
use Rattle.gate_rule.specs.declared.view.Role.TheVariants.{Caller, Admin}
use Rattle.gate_rule.specs.declared.view.Ticket.{Ticket}
use Rattle.gate_rule.specs.declared.view.Ticket.TheVariants.{Without, Drawn, Served}
use Rattle.gate_rule.specs.declared.view.Pass.{Pass}
use Rattle.gate_rule.specs.declared.view.Pass.TheVariants.{Out, Inside}
use Rattle.gate_rule.specs.declared.view.Key.{Key}
use Rattle.gate_rule.specs.declared.view.Fixed.{Fixed}
use Rattle.gate_rule.specs.declared.view.View.{View}
use Rattle.access_vectors.specs.declared.class.Class.{Class}
use Rattle.gate_rule.specs.Rows.{key_row}
use Rattle.gate_rule.specs.Views.{number_of, pass_version}
use Rattle.gate_rule.specs.Told.{IsPassFor}

-- a seat, or the administrator: the table that it sits at, and all that it knows
pub record SeatView (E D O : Type 0) : Type 0 where
  pub table : TableId
  pub view : View E D O

-- a gate: its table, and what it fixes
pub record Site (D O : Type 0) : Type 0 where
  pub table : TableId
  pub fixed : Fixed D O

-- the gate made the seat
abbrev pub IsOfGate : {E D O : Type 0} → Site D O → SeatView E D O → Type 0
IsOfGate g s = (s.table ≡ g.table) × (s.view.fixed ≡ Some g.fixed)

-- the seat sits at this table, which is that of a gate
abbrev pub IsAt : TableId → TableId → Type 0
IsAt table seat = (seat ≡ table) × (table.words ≡ 517)

-- a caller's role
abbrev pub IsCaller : Role → Type 0
IsCaller role = (n : ℕ) × (role ≡ Caller n)

-- a pass that is held
abbrev pub IsInside : Pass → Type 0
IsInside Out = ⊥
IsInside (Inside number version) = Unit {0}

-- the pass of a number and its version, where there is one
abbrev pub pass_of : Option (ℕ × ℕ) → Pass
pass_of None = Out
pass_of (Some p) = Inside p.0 p.1

-- what is in a seat's hand between two calls: the empty slot, while it has the turn
abbrev pub carried_by : {V : Type 0} → Ticket → List (ℕ × Option V)
carried_by Without = []
carried_by (Drawn w) = []
carried_by (Served w) = (0, None) ∷ []

-- no ticket, or the turn
abbrev pub IsAtRest : Ticket → Type 0
IsAtRest Without = Unit {0}
IsAtRest (Drawn w) = ⊥
IsAtRest (Served w) = Unit {0}

-- a pass, if there is one, is within what the gate fixes
abbrev pub IsPassWithin : {D O : Type 0} → (D → Decisions) → Fixed D O → Pass → Type 0
IsPassWithin decides f Out = Unit {0}
IsPassWithin decides f (Inside number version) = IsPassFor decides f number version

-- the word is the row of the pass's number and a key, with the decider's vector for the pass's version
abbrev pub IsRowFor : {E D O : Type 0} → (D → Decisions) → View E D O → Key → ℕ → Type 0
IsRowFor {D = D} {O = O} decides v key row =
    (vector : ℕ) × (row ≡ key_row (number_of v.rights.pass) key vector) × (vector < 65536)
    × ((f : Fixed D O) → v.fixed ≡ Some f → vector ≡ (decides f.decider).vector (pass_version v.rights.pass) key.source key.target key.class)

-- the run-time numbers of a caller's seat are those that it knows
pub record IsSeat {V E D O : Type 0} (decides : D → Decisions) (me : Me (Option V) (View E D O)) (number quota : ℕ) (pass : Option (ℕ × ℕ)) : Type 0 where
  pub role : me.0.role ≡ Caller number
  pub quota_left : me.0.rights.quota ≡ quota
  pub held : me.0.rights.pass ≡ pass_of pass
  pub carried : me.1 ≡ carried_by me.0.ticket
  pub rest : IsAtRest me.0.ticket
  pub within : (f : Fixed D O) → me.0.fixed ≡ Some f → IsPassWithin decides f me.0.rights.pass

-- the run-time numbers of the administrator are those that it knows
pub record IsAdmin {V E D O : Type 0} (me : Me (Option V) (View E D O)) (number version counted made retired : ℕ) : Type 0 where
  pub role : me.0.role ≡ Admin
  pub newest : me.0.admin_view.newest ≡ number
  pub version_is : me.0.admin_view.version ≡ version
  pub counted_is : me.0.admin_view.counted ≡ counted
  pub made_is : me.0.admin_view.made ≡ made
  pub retired_is : length me.0.admin_view.ended ≡ retired
  pub within : retired ≤ made
  pub carried : me.1 ≡ carried_by me.0.ticket
  pub rest : IsAtRest me.0.ticket
  pub room : (f : Fixed D O) → me.0.fixed ≡ Some f → (made ≤ f.seats) × (number ≤ f.most)

-- the key of a source, a target and a class
abbrev pub key_of : ℕ → ℕ → Class → Key
key_of s t c = record { source = s; target = t; class = c }
