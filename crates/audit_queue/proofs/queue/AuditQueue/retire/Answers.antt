use Rattle.audit_queue.proofs.DeliveryLemmas.{keeps}
use Rattle.audit_queue.proofs.queue.AuditQueue.retire.Goals as goal

pub absorb-requires-clause-rule : goal.absorb-requires-clause-rule
absorb-requires-clause-rule c = keeps _ _ _ _ c.taker.invariant.0.takes c.taker.invariant.0.posts c.pen.invariant.posts
