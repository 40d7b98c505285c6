-- Seats between two calls.
use Rattle.epoch_gate.specs.Seats.{Site, SeatView, IsOfGate}
use Rattle.epoch_gate.specs.Known.{IsIdle, HasNoPass}

-- a seat of the gate, with no ticket and no pass
abbrev pub IsFree : {E D O : Type 0} → Site D O → SeatView E D O → Type 0
IsFree g s = IsOfGate g s × IsIdle s × HasNoPass s
