use Rattle.text_print.proofs.FrontLaws.{on_err}
use Rattle.audit_log.proofs.log.AuditLog.log.Goals as goal

-- the lines of the questions before the one whose line found no memory
pub returns-in_err-put-clause-err : goal.returns-in_err-put-clause-err
returns-in_err-put-clause-err c =
    on_err c.from_residual.result (c.questions.question-index, rw c.in_err-put.ensures.err c.questions.invariant)
