use Rattle.audit_queue.proofs.DeliveryLemmas.{makes}
use Rattle.audit_queue.proofs.queue.AuditQueue.pen.Goals as goal

pub another-pass-requires-clause-rule : goal.another-pass-requires-clause-rule
another-pass-requires-clause-rule c = makes _ _ c.taker.invariant.0.takes c.taker.invariant.0.posts
