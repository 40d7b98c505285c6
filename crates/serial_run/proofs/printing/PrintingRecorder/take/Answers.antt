use Rattle.serial_run.proofs.PrintingLemmas.{stops_at_line, stops_for_memory}
use Rattle.serial_run.proofs.printing.PrintingRecorder.take.Goals as goal

pub returns-in_err-put_answer-clause-stopped : goal.returns-in_err-put_answer-clause-stopped
returns-in_err-put_answer-clause-stopped g c =
    stops_for_memory g.K.Sink.written g.K.Sink.faults c.args.self.now c.args.sink.now _ c.from_residual.result c.from_residual.ensures.1

pub returns-clause-stopped : goal.returns-clause-stopped
returns-clause-stopped g c =
    stops_at_line g.K.Sink.written g.K.Sink.faults c.args.self.now c.args.sink.now c.put_gathered.new.sink _ c.put_gathered.result c.put_answer.new.out
    c.in_ok-put_answer.ensures.ok c.put_gathered.ensures.err c.put_gathered.ensures.cause
