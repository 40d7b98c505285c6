use Rattle.std.proofs.Common.{◌≡◌, take}
use Rattle.std.specs.List.{flat_map}
use Rattle.flask_io.specs.Streams.{Adds}
use Rattle.flaskd_run.specs.Paths.{hop_text}
use Rattle.flaskd_run.proofs.path_texts.write_hops.Given as goal

abbrev pub invariant-hops : goal.invariant-hops
invariant-hops g l =
    record {
      written : Adds (g.K.Sink.written l.fn.sink) (g.K.Sink.written l.sink) (flat_map (hop_text l.policy) (take l.hop-index l.hops));
      quiet : g.K.Sink.faults l.sink ≡ g.K.Sink.faults l.fn.sink;
    }
