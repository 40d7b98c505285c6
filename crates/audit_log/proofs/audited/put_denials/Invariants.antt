use Rattle.std.proofs.Common.{◌≡◌, ◌++◌, take}
use Rattle.std.specs.List.{filter}
use Rattle.audit_log.specs.Audited
use Rattle.audit_log.proofs.audited.put_denials.Given as goal

abbrev pub invariant-questions : goal.invariant-questions
invariant-questions l = l.out ≡ l.fn.out ++ filter (Audited.is_denial l.policy l.sids) (take l.question-index l.asked)
