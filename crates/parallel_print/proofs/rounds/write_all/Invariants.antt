use Rattle.std.proofs.Common.{◌≡◌, length}
use Rattle.std.specs.List.{flat_map}
use Rattle.run_output.specs.Writing.{IsOffered}
use Rattle.parallel_print.proofs.rounds.write_all.Given as goal

abbrev pub invariant-rounds : goal.invariant-rounds
invariant-rounds g l =
    record {
      written : IsOffered (g.K.Sink.written l.fn.sink) (g.K.Sink.written l.sink) (flat_map (g.W.Wording.text l.wording) l.fn.items) (flat_map (g.W.Wording.text l.wording) l.rest);
      quiet : g.K.Sink.faults l.sink ≡ g.K.Sink.faults l.fn.sink;
    }

abbrev pub decreases-rounds : goal.decreases-rounds
decreases-rounds g l = length l.rest
