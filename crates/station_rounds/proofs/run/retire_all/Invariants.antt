use Rattle.std.proofs.Common.{length}
use Rattle.std.specs.Prelude.{All}
use Rattle.epoch_gate.specs.Seats.{IsOfGate}
use Rattle.epoch_gate.specs.Known.{IsIdle}
use Rattle.station_rounds.specs.Seated.{IsFreeAt}
use Rattle.station_rounds.proofs.run.retire_all.Given as goal

abbrev pub invariant-callers : goal.invariant-callers
invariant-callers g l = record {
  left : All (λ caller. IsFreeAt l.board caller.seat) l.callers.items;
  gate : IsOfGate l.board l.office;
  idle : IsIdle l.office;
}

abbrev pub decreases-callers : goal.decreases-callers
decreases-callers g l = length l.callers.items
