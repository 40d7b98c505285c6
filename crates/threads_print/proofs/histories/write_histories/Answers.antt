use Rattle.std.proofs.Common.{◌++◌}
use Rattle.answer_text.specs.Replies.{file_words, process_words, port_words}
use Rattle.session_forms.specs.declared.run_forms.Manager.TheVariants as manager
use Rattle.history_text.specs.Histories.{history_text}
use Rattle.run_output.specs.Writing.{AddsFront}
use Rattle.run_output.proofs.Outcomes.{on_err, on_err_always}
use Rattle.run_output.proofs.PartLemmas.{cut_first, cut_second, cut_third}
use Rattle.threads_text.specs.Texts.{histories_text}
use Rattle.threads_print.proofs.histories.write_histories.Goals as goal

pub returns-in_err-write_history-clause-err : goal.returns-in_err-write_history-clause-err
returns-in_err-write_history-clause-err g c =
    let contexts = c.args.setting.now.contexts.now in
    let clients = c.args.setting.now.clients.now in
    let histories = c.args.histories.now in
    on_err_always c.from_residual.result
    (AddsFront (g.K.Sink.written c.args.sink.now) (g.K.Sink.written c.write_history.new.sink) (histories_text histories.files.now histories.processes.now histories.ports.now contexts clients))
    (cut_first (g.K.Sink.written c.args.sink.now) (g.K.Sink.written c.write_history.new.sink) (history_text (file_words contexts) clients manager.File histories.files.now)
    (history_text (process_words contexts) clients manager.Process histories.processes.now ++ history_text (port_words contexts) clients manager.Port histories.ports.now)
    c.in_err-write_history.ensures.err)

pub returns-in_err-write_history-2-clause-err : goal.returns-in_err-write_history-2-clause-err
returns-in_err-write_history-2-clause-err g c =
    let contexts = c.args.setting.now.contexts.now in
    let clients = c.args.setting.now.clients.now in
    let histories = c.args.histories.now in
    on_err_always c.from_residual-in_err-write_history-2.result
    (AddsFront (g.K.Sink.written c.args.sink.now) (g.K.Sink.written c.write_history-2.new.sink) (histories_text histories.files.now histories.processes.now histories.ports.now contexts clients))
    (cut_second (g.K.Sink.written c.args.sink.now) (g.K.Sink.written c.write_history.new.sink) (g.K.Sink.written c.write_history-2.new.sink)
    (history_text (file_words contexts) clients manager.File histories.files.now) (history_text (process_words contexts) clients manager.Process histories.processes.now)
    (history_text (port_words contexts) clients manager.Port histories.ports.now) c.in_ok-write_history.ensures.ok c.in_err-write_history-2.ensures.err)

pub returns-clause-err : goal.returns-clause-err
returns-clause-err g c =
    let contexts = c.args.setting.now.contexts.now in
    let clients = c.args.setting.now.clients.now in
    let histories = c.args.histories.now in
    on_err c.write_history-3.result _
    (AddsFront (g.K.Sink.written c.args.sink.now) (g.K.Sink.written c.write_history-3.new.sink) (histories_text histories.files.now histories.processes.now histories.ports.now contexts clients))
    (λ cut. cut_third (g.K.Sink.written c.args.sink.now) (g.K.Sink.written c.write_history.new.sink) (g.K.Sink.written c.write_history-2.new.sink) (g.K.Sink.written c.write_history-3.new.sink)
    (history_text (file_words contexts) clients manager.File histories.files.now) (history_text (process_words contexts) clients manager.Process histories.processes.now)
    (history_text (port_words contexts) clients manager.Port histories.ports.now) c.in_ok-write_history.ensures.ok c.in_ok-write_history-2.ensures.ok cut) c.write_history-3.ensures.err
