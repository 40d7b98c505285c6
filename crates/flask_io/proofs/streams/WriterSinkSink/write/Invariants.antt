use Rattle.std.proofs.Common.{◌≡◌}
use Rattle.flask_io.proofs.streams.WriterSinkSink.write.Given as goal

-- no fault is counted while the writer is tried
abbrev pub invariant-tries : goal.invariant-tries
invariant-tries g l = l.self.faults ≡ l.fn.self.faults
