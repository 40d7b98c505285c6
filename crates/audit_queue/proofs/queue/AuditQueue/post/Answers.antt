use Rattle.std.proofs.Common.{ap, arith}
use Rattle.audit_queue.specs.Pens.{Posted}
use Rattle.audit_queue.proofs.DeliveryLemmas.{posts}
use Rattle.audit_queue.proofs.queue.AuditQueue.post.Goals as goal

pub push_as-requires-clause-rule : goal.push_as-requires-clause-rule
push_as-requires-clause-rule g c =
    λ n. posts n _ _ _ c.pen.invariant.posts c.pen.invariant.takes (omega (arith, c.requires.client, ap (λ (pen : Posted). pen.number) c.pen.view_is, c.pen.invariant.number_is))
