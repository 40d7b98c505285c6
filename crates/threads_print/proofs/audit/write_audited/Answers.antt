use Rattle.std.proofs.Common.{List, ℕ, subst}
use Rattle.std.specs.Prelude.{OnOk, OnErr}
use Rattle.flask_io.specs.Streams.{Adds}
use Rattle.run_output.specs.Writing.{AddsFront}
use Rattle.threads_print.proofs.Logged.{logged_run}
use Rattle.threads_print.proofs.audit.write_audited.Goals as goal

pub returns-clause-ok : goal.returns-clause-ok
returns-clause-ok g c = λ d session files processes ports run.
    subst (λ (text : List ℕ). OnOk c.write_audit.result (Adds (g.K.Sink.written c.args.sink.now) (g.K.Sink.written c.write_audit.new.sink) text))
    (logged_run d session c.args.setting.now files processes ports c.args.log.now run c.if-not-setting.false) c.write_audit.ensures.ok

pub returns-clause-err : goal.returns-clause-err
returns-clause-err g c = λ d session files processes ports run.
    subst (λ (text : List ℕ). OnErr c.write_audit.result (AddsFront (g.K.Sink.written c.args.sink.now) (g.K.Sink.written c.write_audit.new.sink) text))
    (logged_run d session c.args.setting.now files processes ports c.args.log.now run c.if-not-setting.false) c.write_audit.ensures.err
