use Rattle.std.proofs.Common.{◌≡◌, take}
use Rattle.std.specs.List.{flat_map}
use Rattle.audit_log.specs.Texts.{line_text}
use Rattle.run_output.specs.Writing.{IsOffered}
use Rattle.run_output.proofs.auditing.write_client.Given as goal

abbrev pub invariant-lines : goal.invariant-lines
invariant-lines g l =
    record {
      gathered : IsOffered (g.K.Sink.written l.fn.sink) (g.K.Sink.written l.sink) (flat_map (line_text l.contexts l.name) (take l.line-index l.lines)) l.out;
      quiet : g.K.Sink.faults l.sink ≡ g.K.Sink.faults l.fn.sink;
    }
