use Rattle.std.proofs.Common.{◌≡◌, take}
use Rattle.std.specs.List.{flat_map}
use Rattle.flask_io.specs.Streams.{Adds}
use Rattle.grant_print.specs.Printed.{grant_text}
use Rattle.grant_print.proofs.grants.write_grants.Given as goal

abbrev pub invariant-grants : goal.invariant-grants
invariant-grants g l =
    record {
      written : Adds (g.K.Sink.written l.fn.sink) (g.K.Sink.written l.sink) (flat_map (grant_text l.policy l.first) (take l.grant-index l.grants));
      quiet : g.K.Sink.faults l.sink ≡ g.K.Sink.faults l.fn.sink;
    }
