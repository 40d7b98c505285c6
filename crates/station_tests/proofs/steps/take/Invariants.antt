use Rattle.epoch_gate.specs.Seats.{IsOfGate}
use Rattle.epoch_gate.specs.Known.{IsIdle}
use Rattle.station_tests.proofs.steps.take.Given as goal

abbrev pub invariant-steps : goal.invariant-steps
invariant-steps g l = (IsOfGate l.board l.office × IsIdle l.office) × (IsOfGate l.board l.seat × IsIdle l.seat)
