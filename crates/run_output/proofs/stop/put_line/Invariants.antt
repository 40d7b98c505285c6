use Rattle.std.proofs.Common.{◌≡◌, length}
use Rattle.run_output.specs.Writing.{IsOffered, IsUnderWay}
use Rattle.run_output.proofs.stop.put_line.Given as goal

abbrev pub invariant-offers : goal.invariant-offers
invariant-offers g l =
    IsOffered (g.K.Sink.written l.fn.sink) (g.K.Sink.written l.sink) l.fn.out l.rest
    × IsUnderWay (g.K.Sink.offered l.fn.sink) (g.K.Sink.offered l.sink) l.fn.out l.rest
    × (g.K.Sink.faults l.sink ≡ g.K.Sink.faults l.fn.sink)

abbrev pub decreases-offers : goal.decreases-offers
decreases-offers g l = length l.rest
