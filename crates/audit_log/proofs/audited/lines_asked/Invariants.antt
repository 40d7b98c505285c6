use Rattle.std.proofs.Common.{◌≡◌, take}
use Rattle.audit_log.specs.Audited
use Rattle.audit_log.proofs.audited.lines_asked.Given as goal

abbrev pub invariant-questions : goal.invariant-questions
invariant-questions l = l.lines ≡ Audited.lines_asked l.fn.policy l.fn.sids l.acting (take l.question-index l.asked)
