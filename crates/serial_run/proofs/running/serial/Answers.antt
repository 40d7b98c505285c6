use Rattle.std.proofs.Common.{◌≡◌, ◌∙◌, [], length, refl, sym, ap}
use Rattle.std.specs.Prelude.{replicate}
use Rattle.std.proofs.lemmas.List.{length-replicate}
use Rattle.run_output.specs.declared.setting.Setting.{Setting}
use Rattle.run_output.proofs.Outcomes.{on_ok, on_err, on_err_always}
use Rattle.run_output.proofs.GatherLemmas.{gathers}
use Rattle.run_output.proofs.WritingLemmas.{all_written, last_failed}
use Rattle.session_runner.proofs.OpeningLemmas.{opened_shown, opened_below}
use Rattle.session_text.proofs.SessionLemmas.{few_clients}
use Rattle.serial_run.proofs.PrintingLemmas.{nothing_put, printed_all, printed_front, stop_as}
use Rattle.serial_run.proofs.TextLemmas.{IsSetting, lines_front, whole_text}
use Rattle.serial_run.proofs.running.serial.Goals as goal

pub returns-in_err-runner-clause-err : goal.returns-in_err-runner-clause-err
returns-in_err-runner-clause-err g c = on_err_always _ _ (nothing_put (g.K.Sink.written c.args.sink.now) _)

pub returns-in_err-run_lines-clause-err : goal.returns-in_err-run_lines-clause-err
returns-in_err-run_lines-clause-err g c =
    let opened = c.in_ok-runner.field-0 in
    let is = c.in_ok-runner.ensures in
    let setting : IsSetting c.args.session c.args.contexts.now c.in_ok-printing.printing.setting = record {
      policy_is = ap (λ (s : Setting). s.policy.now) c.in_ok-printing.ensures.setting ∙ c.parts.ensures.parts ∙ is.policy_is;
      contexts_are = ap (λ (s : Setting). s.contexts.now) c.in_ok-printing.ensures.setting;
      clients_are = ap (λ (s : Setting). s.clients.now) c.in_ok-printing.ensures.setting ∙ c.as_slice.ensures ∙ is.clients_are;
      audited_is = ap (λ (s : Setting). s.audited) c.in_ok-printing.ensures.setting ∙ is.audit_is;
    } in
    let shown = opened_shown g.D.Decider.decides c.args.decider.now c.args.session opened opened.runner opened.lines.items is refl refl in
    let front = printed_front g.K.Sink.written g.K.Sink.offered g.K.Sink.faults _ (λ stop want. want.1) c.in_ok-printing.printing c.args.sink.now c.run_lines.new.out _ c.in_err-run_lines.field-0.0 c.in_err-run_lines.ensures.stopped in
    on_err_always _ _ (lines_front c.args.session (g.D.Decider.decides c.args.decider.now) c.args.contexts.now c.in_ok-printing.printing.setting _ (g.K.Sink.written c.args.sink.now) (g.K.Sink.written c.run_lines.new.out) setting shown (rw c.in_ok-printing.ensures.gathered at front.adds))

pub returns-in_err-run_lines-clause-cause : goal.returns-in_err-run_lines-clause-cause
returns-in_err-run_lines-clause-cause g c =
    let front = printed_front g.K.Sink.written g.K.Sink.offered g.K.Sink.faults _ (λ stop want. want.1) c.in_ok-printing.printing c.args.sink.now c.run_lines.new.out _ c.in_err-run_lines.field-0.0 c.in_err-run_lines.ensures.stopped in
    stop_as (g.K.Sink.faults c.args.sink.now) (g.K.Sink.faults c.run_lines.new.out) c.in_err-run_lines.field-0.0 c.from_residual-in_err-run_lines.result c.from_residual-in_err-run_lines.ensures.1 front.cause

pub write_end-written-requires-clause-log : goal.write_end-written-requires-clause-log
write_end-written-requires-clause-log g c =
    let printed = printed_all g.K.Sink.written g.K.Sink.offered g.K.Sink.faults c.in_ok-printing.printing c.run_lines.new.recorder c.args.sink.now c.run_lines.new.out _ c.in_ok-run_lines.ensures.taken in
    let count : length c.in_ok-printing.printing.log ≡ length c.as_slice.result.now = ap length c.in_ok-printing.ensures.log ∙ length-replicate (length c.as_slice.result.now) _ in
    ap (λ (s : Setting). length s.clients.now) (printed.setting_is ∙ c.in_ok-printing.ensures.setting) ∙ sym (printed.gains.clients ∙ count)

pub write_end-written-requires-clause-few : goal.write_end-written-requires-clause-few
write_end-written-requires-clause-few g c =
    let is = c.in_ok-runner.ensures in
    let printed = printed_all g.K.Sink.written g.K.Sink.offered g.K.Sink.faults c.in_ok-printing.printing c.run_lines.new.recorder c.args.sink.now c.run_lines.new.out _ c.in_ok-run_lines.ensures.taken in
    let count : length c.in_ok-printing.printing.log ≡ length c.as_slice.result.now = ap length c.in_ok-printing.ensures.log ∙ length-replicate (length c.as_slice.result.now) _ in
    rw (printed.gains.clients ∙ count ∙ ap length (c.as_slice.ensures ∙ is.clients_are)) (few_clients c.args.session c.requires.session)

pub returns-clause-ok : goal.returns-clause-ok
returns-clause-ok g c =
    let opened = c.in_ok-runner.field-0 in
    let is = c.in_ok-runner.ensures in
    let setting : IsSetting c.args.session c.args.contexts.now c.in_ok-printing.printing.setting = record {
      policy_is = ap (λ (s : Setting). s.policy.now) c.in_ok-printing.ensures.setting ∙ c.parts.ensures.parts ∙ is.policy_is;
      contexts_are = ap (λ (s : Setting). s.contexts.now) c.in_ok-printing.ensures.setting;
      clients_are = ap (λ (s : Setting). s.clients.now) c.in_ok-printing.ensures.setting ∙ c.as_slice.ensures ∙ is.clients_are;
      audited_is = ap (λ (s : Setting). s.audited) c.in_ok-printing.ensures.setting ∙ is.audit_is;
    } in
    let shown = opened_shown g.D.Decider.decides c.args.decider.now c.args.session opened opened.runner opened.lines.items is refl refl in
    let below = c.in_ok-run_lines.ensures.state ∙ opened_below g.D.Decider.decides c.args.decider.now c.args.session opened opened.runner opened.lines.items is refl refl in
    let printed = printed_all g.K.Sink.written g.K.Sink.offered g.K.Sink.faults c.in_ok-printing.printing c.run_lines.new.recorder c.args.sink.now c.run_lines.new.out _ c.in_ok-run_lines.ensures.taken in
    let old = c.in_ok-printing.ensures.log ∙ sym (ap (λ (s : Setting). replicate (length s.clients.now) []) c.in_ok-printing.ensures.setting) in
    let whole = whole_text c.args.session (g.D.Decider.decides c.args.decider.now) c.args.contexts.now c.in_ok-printing.printing.setting c.run_lines.new.recorder.setting _ c.run_lines.new.self.state
    c.in_ok-printing.printing.log c.run_lines.new.recorder.log c.counts.result.0 c.counts.result.1 c.counts.result.2 setting shown below old printed.gains printed.setting_is c.counts.ensures.calls c.counts.ensures.denied c.counts.ensures.changes in
    let waits = gathers (g.K.Sink.written c.args.sink.now) (g.K.Sink.written c.run_lines.new.out) _ c.run_lines.new.recorder.gathered _ (rw c.in_ok-printing.ensures.gathered at printed.adds) in
    rw whole
    (on_ok c.write_end-written.result _ _ (λ last. all_written (g.K.Sink.written c.args.sink.now) (g.K.Sink.written c.run_lines.new.out) (g.K.Sink.written c.write_end-written.new.sink) _ _ waits last) c.write_end-written.ensures.ok)

pub returns-clause-err : goal.returns-clause-err
returns-clause-err g c =
    let opened = c.in_ok-runner.field-0 in
    let is = c.in_ok-runner.ensures in
    let setting : IsSetting c.args.session c.args.contexts.now c.in_ok-printing.printing.setting = record {
      policy_is = ap (λ (s : Setting). s.policy.now) c.in_ok-printing.ensures.setting ∙ c.parts.ensures.parts ∙ is.policy_is;
      contexts_are = ap (λ (s : Setting). s.contexts.now) c.in_ok-printing.ensures.setting;
      clients_are = ap (λ (s : Setting). s.clients.now) c.in_ok-printing.ensures.setting ∙ c.as_slice.ensures ∙ is.clients_are;
      audited_is = ap (λ (s : Setting). s.audited) c.in_ok-printing.ensures.setting ∙ is.audit_is;
    } in
    let shown = opened_shown g.D.Decider.decides c.args.decider.now c.args.session opened opened.runner opened.lines.items is refl refl in
    let below = c.in_ok-run_lines.ensures.state ∙ opened_below g.D.Decider.decides c.args.decider.now c.args.session opened opened.runner opened.lines.items is refl refl in
    let printed = printed_all g.K.Sink.written g.K.Sink.offered g.K.Sink.faults c.in_ok-printing.printing c.run_lines.new.recorder c.args.sink.now c.run_lines.new.out _ c.in_ok-run_lines.ensures.taken in
    let old = c.in_ok-printing.ensures.log ∙ sym (ap (λ (s : Setting). replicate (length s.clients.now) []) c.in_ok-printing.ensures.setting) in
    let whole = whole_text c.args.session (g.D.Decider.decides c.args.decider.now) c.args.contexts.now c.in_ok-printing.printing.setting c.run_lines.new.recorder.setting _ c.run_lines.new.self.state
    c.in_ok-printing.printing.log c.run_lines.new.recorder.log c.counts.result.0 c.counts.result.1 c.counts.result.2 setting shown below old printed.gains printed.setting_is c.counts.ensures.calls c.counts.ensures.denied c.counts.ensures.changes in
    let waits = gathers (g.K.Sink.written c.args.sink.now) (g.K.Sink.written c.run_lines.new.out) _ c.run_lines.new.recorder.gathered _ (rw c.in_ok-printing.ensures.gathered at printed.adds) in
    rw whole
    (on_err c.write_end-written.result _ _ (λ last. last_failed (g.K.Sink.written c.args.sink.now) (g.K.Sink.written c.run_lines.new.out) (g.K.Sink.written c.write_end-written.new.sink) _ _ waits last) c.write_end-written.ensures.err)

pub returns-clause-cause : goal.returns-clause-cause
returns-clause-cause g c =
    let printed = printed_all g.K.Sink.written g.K.Sink.offered g.K.Sink.faults c.in_ok-printing.printing c.run_lines.new.recorder c.args.sink.now c.run_lines.new.out _ c.in_ok-run_lines.ensures.taken in
    rw printed.quiet at c.write_end-written.ensures.cause
