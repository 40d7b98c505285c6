use Rattle.std.proofs.Common.{◌∙◌, refl}
use Rattle.run_output.proofs.Outcomes.{on_err_always}
use Rattle.session_runner.proofs.OpeningLemmas.{opened_below}
use Rattle.serial_run.proofs.PrintingLemmas.{nothing_put}
use Rattle.serial_run.proofs.TextLemmas.{summary_is}
use Rattle.serial_run.proofs.running.summary.Goals as goal

pub returns-in_err-runner-clause-err : goal.returns-in_err-runner-clause-err
returns-in_err-runner-clause-err g c = on_err_always _ _ (nothing_put (g.K.Sink.written c.args.sink.now) _)

pub returns-in_err-run_lines-clause-err : goal.returns-in_err-run_lines-clause-err
returns-in_err-run_lines-clause-err g c = on_err_always _ _ (nothing_put (g.K.Sink.written c.args.sink.now) _)

pub returns-clause-ok : goal.returns-clause-ok
returns-clause-ok g c =
    let opened = c.in_ok-runner.field-0 in
    let below = c.in_ok-run_lines.ensures.state ∙ opened_below g.D.Decider.decides c.args.decider.now c.args.session opened opened.runner opened.lines.items c.in_ok-runner.ensures refl refl in
    let sum = summary_is c.args.session (g.D.Decider.decides c.args.decider.now) c.run_lines.new.self.state c.counts.result.0 c.counts.result.1 c.counts.result.2 below c.counts.ensures.calls c.counts.ensures.denied c.counts.ensures.changes in
    rw (← sum) c.write_counts-written.ensures.ok

pub returns-clause-err : goal.returns-clause-err
returns-clause-err g c =
    let opened = c.in_ok-runner.field-0 in
    let below = c.in_ok-run_lines.ensures.state ∙ opened_below g.D.Decider.decides c.args.decider.now c.args.session opened opened.runner opened.lines.items c.in_ok-runner.ensures refl refl in
    let sum = summary_is c.args.session (g.D.Decider.decides c.args.decider.now) c.run_lines.new.self.state c.counts.result.0 c.counts.result.1 c.counts.result.2 below c.counts.ensures.calls c.counts.ensures.denied c.counts.ensures.changes in
    rw (← sum) c.write_counts-written.ensures.err
