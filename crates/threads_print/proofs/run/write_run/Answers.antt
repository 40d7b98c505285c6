use Rattle.std.proofs.Common.{List, ◌++◌, subst}
use Rattle.flask_io.specs.Streams.{Adds}
use Rattle.session_text.specs.declared.session.ClientLine.{ClientLine}
use Rattle.text_print.specs.Printed.{ended}
use Rattle.run_output.specs.Writing.{AddsFront}
use Rattle.run_output.proofs.Outcomes.{on_ok, on_err, on_err_always}
use Rattle.run_output.proofs.PartLemmas.{cut_first, cut_second, cut_third, all_three}
use Rattle.threads_text.specs.Texts.{histories_text, run_audit, summary_words, counts_of_run, run_text}
use Rattle.threads_print.proofs.run.write_run.Goals as goal

pub returns-in_err-write_histories-clause-err : goal.returns-in_err-write_histories-clause-err
returns-in_err-write_histories-clause-err g c = λ d session run.
    let contexts = c.args.setting.now.contexts.now in
    let files = c.args.histories.now.files.now in
    let processes = c.args.histories.now.processes.now in
    let ports = c.args.histories.now.ports.now in
    let first = subst (λ (clients : List ClientLine). AddsFront (g.K.Sink.written c.args.sink.now) (g.K.Sink.written c.write_histories.new.sink) (histories_text files processes ports contexts clients))
    run.setting_is.clients_are c.in_err-write_histories.ensures.err in
    on_err_always c.from_residual.result (AddsFront (g.K.Sink.written c.args.sink.now) (g.K.Sink.written c.write_histories.new.sink) (run_text files processes ports contexts session))
    (cut_first (g.K.Sink.written c.args.sink.now) (g.K.Sink.written c.write_histories.new.sink) (histories_text files processes ports contexts session.clients)
    (run_audit files processes ports contexts session ++ ended (summary_words (counts_of_run files processes ports))) first)

pub returns-in_err-write_audited-clause-err : goal.returns-in_err-write_audited-clause-err
returns-in_err-write_audited-clause-err g c = λ d session run.
    let contexts = c.args.setting.now.contexts.now in
    let files = c.args.histories.now.files.now in
    let processes = c.args.histories.now.processes.now in
    let ports = c.args.histories.now.ports.now in
    let first = subst (λ (clients : List ClientLine). Adds (g.K.Sink.written c.args.sink.now) (g.K.Sink.written c.write_histories.new.sink) (histories_text files processes ports contexts clients))
    run.setting_is.clients_are c.in_ok-write_histories.ensures.ok in
    on_err_always c.from_residual-in_err-write_audited.result
    (AddsFront (g.K.Sink.written c.args.sink.now) (g.K.Sink.written c.write_audited.new.sink) (run_text files processes ports contexts session))
    (cut_second (g.K.Sink.written c.args.sink.now) (g.K.Sink.written c.write_histories.new.sink) (g.K.Sink.written c.write_audited.new.sink)
    (histories_text files processes ports contexts session.clients) (run_audit files processes ports contexts session) (ended (summary_words (counts_of_run files processes ports))) first
    (c.in_err-write_audited.ensures.err d session files processes ports run))

pub returns-clause-ok : goal.returns-clause-ok
returns-clause-ok g c = λ d session run.
    let contexts = c.args.setting.now.contexts.now in
    let files = c.args.histories.now.files.now in
    let processes = c.args.histories.now.processes.now in
    let ports = c.args.histories.now.ports.now in
    let first = subst (λ (clients : List ClientLine). Adds (g.K.Sink.written c.args.sink.now) (g.K.Sink.written c.write_histories.new.sink) (histories_text files processes ports contexts clients))
    run.setting_is.clients_are c.in_ok-write_histories.ensures.ok in
    on_ok c.write_summary.result _ (Adds (g.K.Sink.written c.args.sink.now) (g.K.Sink.written c.write_summary.new.sink) (run_text files processes ports contexts session))
    (λ last. all_three (g.K.Sink.written c.args.sink.now) (g.K.Sink.written c.write_histories.new.sink) (g.K.Sink.written c.write_audited.new.sink) (g.K.Sink.written c.write_summary.new.sink)
    (histories_text files processes ports contexts session.clients) (run_audit files processes ports contexts session) (ended (summary_words (counts_of_run files processes ports))) first
    (c.in_ok-write_audited.ensures.ok d session files processes ports run) last) (c.write_summary.ensures.ok d session run.of_run)

pub returns-clause-err : goal.returns-clause-err
returns-clause-err g c = λ d session run.
    let contexts = c.args.setting.now.contexts.now in
    let files = c.args.histories.now.files.now in
    let processes = c.args.histories.now.processes.now in
    let ports = c.args.histories.now.ports.now in
    let first = subst (λ (clients : List ClientLine). Adds (g.K.Sink.written c.args.sink.now) (g.K.Sink.written c.write_histories.new.sink) (histories_text files processes ports contexts clients))
    run.setting_is.clients_are c.in_ok-write_histories.ensures.ok in
    on_err c.write_summary.result _ (AddsFront (g.K.Sink.written c.args.sink.now) (g.K.Sink.written c.write_summary.new.sink) (run_text files processes ports contexts session))
    (λ cut. cut_third (g.K.Sink.written c.args.sink.now) (g.K.Sink.written c.write_histories.new.sink) (g.K.Sink.written c.write_audited.new.sink) (g.K.Sink.written c.write_summary.new.sink)
    (histories_text files processes ports contexts session.clients) (run_audit files processes ports contexts session) (ended (summary_words (counts_of_run files processes ports))) first
    (c.in_ok-write_audited.ensures.ok d session files processes ports run) cut) (c.write_summary.ensures.err d session run.of_run)
