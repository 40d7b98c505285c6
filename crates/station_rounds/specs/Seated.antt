-- Seats between their calls.
use Rattle.epoch_gate.specs.Seats.{SeatView, Site, IsOfGate}
use Rattle.epoch_gate.specs.Known.{IsIdle, HasNoPass}

-- a seat is the gate's, has not the turn, and has no pass
abbrev pub IsFreeAt : {E D O : Type 0} → Site D O → SeatView E D O → Type 0
IsFreeAt site seat = IsOfGate site seat × IsIdle seat × HasNoPass seat
