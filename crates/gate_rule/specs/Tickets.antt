-- The turn: tickets are drawn in order, and served in that order.
use Rattle.std.specs.Prelude.{◌≡◌, ℕ, ◌+◌, ◌%◌, ◌<◌, ◌≤◌, Bool, true, false, List}
use Rattle.std.specs.List.{sum_by}
use mathlib.Core.Option.{some}
use lib.ListN.{get_elem?}
use Rattle.gate_rule.specs.declared.view.Ticket.{Ticket}
use Rattle.gate_rule.specs.declared.view.Ticket.TheVariants.{Without, Drawn, Served}

-- 1 for a seat with a ticket
abbrev pub has_ticket : Ticket → ℕ
has_ticket Without = 0
has_ticket (Drawn w) = 1
has_ticket (Served w) = 1

-- the seat has the turn
abbrev pub has_turn : Ticket → Bool
has_turn Without = false
has_turn (Drawn w) = false
has_turn (Served w) = true

-- the ticket's word
abbrev pub word_of : Ticket → ℕ
word_of Without = 0
word_of (Drawn w) = w
word_of (Served w) = w

-- the ticket of this seat is one that was drawn by it and is not passed; where it is served, it is the one whose turn it is
abbrev pub FitsTicket : ℕ → ℕ → (ℕ → ℕ) → ℕ → Ticket → Type 0
FitsTicket drawn served owner seat Without = Unit {0}
FitsTicket drawn served owner seat (Drawn w) = (k : ℕ) × (k % 18446744073709551616 ≡ w) × (served ≤ k) × (k < drawn) × (owner k ≡ seat)
FitsTicket drawn served owner seat (Served w) = (served % 18446744073709551616 ≡ w) × (served < drawn) × (owner served ≡ seat)

-- the two words are the counts of tickets drawn and passed; the seats with a ticket are as many as tickets are out, and each has one of its own
pub record Tickets (ts : List Ticket) (next serving : ℕ) : Type 0 where
  pub drawn : ℕ
  pub served : ℕ
  pub owner : ℕ → ℕ
  pub next_is : next ≡ drawn % 18446744073709551616
  pub serving_is : serving ≡ served % 18446744073709551616
  pub counted : drawn ≡ served + sum_by has_ticket ts
  pub each : (j : ℕ) (t : Ticket) → get_elem? ts j ≡ some t → FitsTicket drawn served owner j t
