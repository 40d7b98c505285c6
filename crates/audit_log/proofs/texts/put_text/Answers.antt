use Rattle.audit_log.proofs.AuditLemmas.{put_parts}
use Rattle.audit_log.proofs.texts.put_text.Goals as goal

pub returns-clause-ok : goal.returns-clause-ok
returns-clause-ok c =
    put_parts c.put_policy.result c.args.sids.now c.args.name.now c.args.line.now c.args.out.now c.put_call.new.out c.put_question.new.out c.put_policy.new.out
    c.in_ok-put_call.ensures.ok c.in_ok-put_question.ensures.ok c.put_policy.ensures.ok
