use Rattle.answer_text.specs.Summaries.{summary_words}
use Rattle.run_output.specs.Logged.{logged_text}
use Rattle.run_output.proofs.Outcomes.{on_err, on_err_always}
use Rattle.run_output.proofs.PartLemmas.{cut_first, cut_second, cut_third}
use Rattle.text_print.specs.Printed.{ended}
use Rattle.serial_run.proofs.ending.write_end.Goals as goal

pub returns-in_err-put_line-clause-err : goal.returns-in_err-put_line-clause-err
returns-in_err-put_line-clause-err g c =
    on_err_always _ _ (cut_first (g.K.Sink.written c.args.sink.now) (g.K.Sink.written c.put_line.new.sink) c.args.printing.now.gathered _ c.in_err-put_line.ensures.err)

pub returns-in_err-write_audit-clause-err : goal.returns-in_err-write_audit-clause-err
returns-in_err-write_audit-clause-err g c =
    let setting = c.args.printing.now.setting in
    on_err_always _ _
    (cut_second (g.K.Sink.written c.args.sink.now) (g.K.Sink.written c.put_line.new.sink) (g.K.Sink.written c.write_audit.new.sink) c.args.printing.now.gathered
    (logged_text setting.contexts.now c.args.printing.now.log 0 setting.clients.now) _ c.in_ok-put_line.ensures.ok c.in_err-write_audit.ensures.err)

pub returns-clause-err : goal.returns-clause-err
returns-clause-err g c =
    let setting = c.args.printing.now.setting in
    on_err c.write_counts.result _ _
    (λ last. cut_third (g.K.Sink.written c.args.sink.now) (g.K.Sink.written c.put_line.new.sink) (g.K.Sink.written c.write_audit.new.sink) (g.K.Sink.written c.write_counts.new.sink)
    c.args.printing.now.gathered (logged_text setting.contexts.now c.args.printing.now.log 0 setting.clients.now) (ended (summary_words c.args.counts.0 c.args.counts.1 c.args.counts.2))
    c.in_ok-put_line.ensures.ok c.in_ok-write_audit.ensures.ok last) c.write_counts.ensures.err
