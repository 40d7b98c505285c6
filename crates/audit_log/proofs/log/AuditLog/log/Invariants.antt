use Rattle.std.proofs.Common.{take}
use Rattle.audit_log.specs.Audited
use Rattle.audit_log.specs.Logs
use Rattle.audit_log.proofs.log.AuditLog.log.Given as goal

abbrev pub invariant-questions : goal.invariant-questions
invariant-questions l = Logs.Gains l.fn.self l.self (Audited.lines_asked l.fn.policy l.fn.sids l.acting (take l.question-index l.asked))
