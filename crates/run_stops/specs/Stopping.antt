-- What a worker's stop is told of the seat after a call.
use Rattle.std.specs.Prelude.{◌≡◌, ℕ, List, [], ◌∷◌, ◌++◌}
use Rattle.gate_rule.specs.History.{Kind}
use Rattle.gate_rule.specs.History.Kind.{Call}
use Rattle.epoch_gate.specs.Seats.{SeatView}
use Rattle.epoch_gate.specs.Known.{caller_number, own_entries}

-- the seat is the client's, and the last of its own entries is a call with this mark, done or aborted
pub record HasAnswered {E D O : Type 0} (kind : E → Kind) (client mark : ℕ) (seat : SeatView E D O) : Type 0 where
  pub number : caller_number seat ≡ client
  pub before : List E
  pub entry : E
  pub last : own_entries seat ≡ before ++ entry ∷ []
  pub policy : ℕ
  pub marked : kind entry ≡ Call client mark policy
