use Rattle.std.proofs.Common.{◌∙◌, length, sym}
use Rattle.std.specs.Prelude.{OnOk, OnErr}
use Rattle.flask_io.specs.Streams.{Adds}
use Rattle.run_output.specs.Writing.{AddsFront}
use Rattle.run_histories.specs.Histories.{AreOfRun}
use Rattle.run_histories.specs.Audits.{IsLogOf}
use Rattle.threads_text.specs.Texts.{run_text}
use Rattle.flaskd_run.proofs.TopLemmas.{of_three}
use Rattle.flaskd_run.proofs.threads.write_ended.Goals as goal

pub returns-clause-ok : goal.returns-clause-ok
returns-clause-ok g c = λ d session has logged.
    let files = c.entries.ensures.value in
    let processes = c.entries-2.ensures.value in
    let ports = c.entries-3.ensures.value in
    of_three (λ f p q. OnOk c.write_run.result (Adds (g.K.Sink.written c.args.sink.now) (g.K.Sink.written c.write_run.new.sink) (run_text f p q c.args.contexts.now session))) _ _ _ _ _ _ files processes ports
    (c.write_run.ensures.ok d session (record {
      setting_is = record { policy_is = c.parts.ensures.parts ∙ has.policy_is; clients_are = c.as_slice.ensures ∙ has.clients_are; audited_is = has.audit_is };
      of_run = of_three (λ f p q. AreOfRun d session f p q) _ _ _ _ _ _ (sym files) (sym processes) (sym ports) has.of_run;
      log_is = of_three (λ f p q. IsLogOf session.policy c.args.contexts.now f p q session.audit (length session.clients) session.lines c.args.ended.now.log) _ _ _ _ _ _
          (sym files) (sym processes) (sym ports) logged;
    }))

pub returns-clause-err : goal.returns-clause-err
returns-clause-err g c = λ d session has logged.
    let files = c.entries.ensures.value in
    let processes = c.entries-2.ensures.value in
    let ports = c.entries-3.ensures.value in
    of_three (λ f p q. OnErr c.write_run.result (AddsFront (g.K.Sink.written c.args.sink.now) (g.K.Sink.written c.write_run.new.sink) (run_text f p q c.args.contexts.now session))) _ _ _ _ _ _ files processes ports
    (c.write_run.ensures.err d session (record {
      setting_is = record { policy_is = c.parts.ensures.parts ∙ has.policy_is; clients_are = c.as_slice.ensures ∙ has.clients_are; audited_is = has.audit_is };
      of_run = of_three (λ f p q. AreOfRun d session f p q) _ _ _ _ _ _ (sym files) (sym processes) (sym ports) has.of_run;
      log_is = of_three (λ f p q. IsLogOf session.policy c.args.contexts.now f p q session.audit (length session.clients) session.lines c.args.ended.now.log) _ _ _ _ _ _
          (sym files) (sym processes) (sym ports) logged;
    }))
