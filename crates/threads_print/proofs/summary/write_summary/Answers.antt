use Rattle.std.proofs.Common.{subst}
use Rattle.std.specs.Prelude.{OnOk, OnErr}
use Rattle.flask_io.specs.Streams.{Adds}
use Rattle.text_print.specs.Printed.{ended}
use Rattle.history_text.specs.declared.counts.Counts.{Counts}
use Rattle.run_output.specs.Writing.{AddsFront}
use Rattle.threads_text.specs.Texts.{summary_words}
use Rattle.threads_print.proofs.summary.write_summary.Goals as goal

pub returns-clause-ok : goal.returns-clause-ok
returns-clause-ok g c = λ d session run.
    subst (λ (k : Counts). OnOk c.write_counts.result (Adds (g.K.Sink.written c.args.sink.now) (g.K.Sink.written c.write_counts.new.sink) (ended (summary_words k))))
    (c.counts-counts.ensures d session run) c.write_counts.ensures.ok

pub returns-clause-err : goal.returns-clause-err
returns-clause-err g c = λ d session run.
    subst (λ (k : Counts). OnErr c.write_counts.result (AddsFront (g.K.Sink.written c.args.sink.now) (g.K.Sink.written c.write_counts.new.sink) (ended (summary_words k))))
    (c.counts-counts.ensures d session run) c.write_counts.ensures.err
