use Rattle.run_output.specs.Logged.{logged_text}
use Rattle.run_output.specs.Writing.{AddsFront}
use Rattle.run_output.proofs.PartLemmas.{cut_first, cut_last, logged_parts}
use Rattle.run_output.proofs.Outcomes.{on_ok, on_err, on_err_always}
use Rattle.run_output.proofs.WritingLemmas.{adds_more}
use Rattle.run_output.proofs.auditing.+write_audit.Goals as goal

pub returns-in_err-write_client-in-len1-up-clause-err :
    goal.returns-in_err-write_client-in-len1-up-clause-err
returns-in_err-write_client-in-len1-up-clause-err g t c =
    let first = rw (c.as_bytes.ensures, c.of.ensures) at c.in_err-write_client-in-len1-up.ensures.err in
    on_err_always c.from_residual.result (AddsFront (g.K.Sink.written c.args.sink.now) (g.K.Sink.written c.write_client.new.sink) (logged_text c.args.contexts.now c.args.log.now c.args.first c.args.clients.now))
    (rw (logged_parts c.args.contexts.now c.args.log.now c.args.first c.args.clients.now c.client-item.result c.in-len1-up.len_at_least c.client-item.is)
    (cut_first _ _ _ _ first))

pub returns-in_ok-write_client-in-len1-up-clause-ok :
    goal.returns-in_ok-write_client-in-len1-up-clause-ok
returns-in_ok-write_client-in-len1-up-clause-ok g t c =
    let first = rw (c.as_bytes.ensures, c.of.ensures) at c.in_ok-write_client-in-len1-up.ensures.ok in
    rw (logged_parts c.args.contexts.now c.args.log.now c.args.first c.args.clients.now c.client-item.result c.in-len1-up.len_at_least c.client-item.is)
    (on_ok c.write_audit.result _ _ (λ added. adds_more _ _ _ _ _ first added) c.write_audit.ensures.ok)

pub returns-in_ok-write_client-in-len1-up-clause-err :
    goal.returns-in_ok-write_client-in-len1-up-clause-err
returns-in_ok-write_client-in-len1-up-clause-err g t c =
    let first = rw (c.as_bytes.ensures, c.of.ensures) at c.in_ok-write_client-in-len1-up.ensures.ok in
    rw (logged_parts c.args.contexts.now c.args.log.now c.args.first c.args.clients.now c.client-item.result c.in-len1-up.len_at_least c.client-item.is)
    (on_err c.write_audit.result _ _ (λ cut. cut_last _ _ _ _ _ first cut) c.write_audit.ensures.err)
