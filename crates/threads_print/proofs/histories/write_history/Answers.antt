use Rattle.std.specs.List.{flat_map}
use Rattle.text_print.specs.Printed.{ended}
use Rattle.history_text.specs.Histories.{heading_words, history_text}
use Rattle.run_output.specs.Writing.{AddsFront}
use Rattle.run_output.proofs.Outcomes.{on_ok, on_err, on_err_always}
use Rattle.run_output.proofs.PartLemmas.{cut_first, cut_last}
use Rattle.run_output.proofs.WritingLemmas.{adds_more}
use Rattle.threads_print.specs.Printing.{entry_text}
use Rattle.threads_print.proofs.Parts.{history_parts}
use Rattle.threads_print.proofs.histories.write_history.Goals as goal

pub returns-in_err-write_heading-clause-err : goal.returns-in_err-write_heading-clause-err
returns-in_err-write_heading-clause-err g c =
    let words = g.R.Worded.words c.args.line.now.setting.now.contexts.now in
    on_err_always c.from_residual.result (AddsFront (g.K.Sink.written c.args.sink.now) (g.K.Sink.written c.write_heading.new.sink) (history_text words c.args.line.now.setting.now.clients.now c.args.line.now.manager c.args.history.now))
    (rw (history_parts words c.args.line.now.setting.now.clients.now c.args.line.now.manager c.args.history.now)
    (cut_first _ _ (ended (heading_words c.args.line.now.manager)) (flat_map (entry_text words c.args.line.now.setting.now.clients.now c.args.line.now.manager) c.args.history.now) c.in_err-write_heading.ensures.err))

pub returns-clause-ok : goal.returns-clause-ok
returns-clause-ok g c =
    rw (history_parts (g.R.Worded.words c.args.line.now.setting.now.contexts.now) c.args.line.now.setting.now.clients.now c.args.line.now.manager c.args.history.now)
    (on_ok c.write_all.result _ _ (λ added. adds_more _ _ _ _ _ c.in_ok-write_heading.ensures.ok added) c.write_all.ensures.ok)

pub returns-clause-err : goal.returns-clause-err
returns-clause-err g c =
    rw (history_parts (g.R.Worded.words c.args.line.now.setting.now.contexts.now) c.args.line.now.setting.now.clients.now c.args.line.now.manager c.args.history.now)
    (on_err c.write_all.result _ _ (λ cut. cut_last _ _ _ _ _ c.in_ok-write_heading.ensures.ok cut) c.write_all.ensures.err)
