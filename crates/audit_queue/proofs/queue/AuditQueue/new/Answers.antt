use Rattle.audit_queue.proofs.DeliveryLemmas.{begins}
use Rattle.audit_queue.proofs.queue.AuditQueue.new.Goals as goal

pub with_rule-requires : goal.with_rule-requires
with_rule-requires c = begins
