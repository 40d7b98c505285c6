use Rattle.epoch_gate.specs.Seats.{IsOfGate}
use Rattle.epoch_gate.specs.Known.{IsIdle, HasPass}
use Rattle.gate_tests.proofs.gate.thousand.Given as goal

abbrev pub invariant-loop-mark : goal.invariant-loop-mark
invariant-loop-mark g l = IsOfGate l.gate l.seat × IsIdle l.seat × HasPass l.seat
