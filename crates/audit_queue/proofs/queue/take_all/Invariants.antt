use Rattle.std.proofs.Common.{◌≡◌, ◌≤◌, ℕ, [], length}
use Rattle.crossbeam_queue.specs.SegTies.{IsSegPassOf}
use Rattle.audit_log.specs.Logs.{of_client, lines_by}
use Rattle.audit_queue.specs.Delivery.{IsTakenFront}
use Rattle.audit_queue.specs.Pens.{IsTaking, knows}
use Rattle.audit_queue.proofs.queue.take_all.Given as goal

abbrev pub invariant-left : goal.invariant-left
invariant-left g l =
    record {
      queue : IsSegPassOf l.lines l.pass;
      taking : IsTaking (knows l.pass).made l.pass;
      kept : (knows l.pass).kept ≡ (knows l.fn.taker).kept;
      made : (knows l.pass).made ≡ (knows l.fn.taker).made;
      logged : (client : ℕ) → of_client l.log client ≡ lines_by client (knows l.pass).got;
      unmade : (client : ℕ) → (knows l.fn.taker).made ≤ client → of_client l.log client ≡ [];
      fronts : IsTakenFront (knows l.fn.taker) l.log;
      clients : length l.log ≡ length l.fn.log;
    }
