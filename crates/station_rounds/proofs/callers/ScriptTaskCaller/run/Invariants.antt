use Rattle.station_rounds.specs.Seated.{IsFreeAt}
use Rattle.station_rounds.proofs.callers.ScriptTaskCaller.run.Given as goal

abbrev pub invariant-calls : goal.invariant-calls
invariant-calls g l = IsFreeAt l.self.board.now l.own.seat
