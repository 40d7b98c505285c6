use Rattle.std.proofs.Common.{◌≡◌}
use Rattle.queue_tests.proofs.tests.posted.Given as goal

abbrev pub invariant-marks : goal.invariant-marks
invariant-marks g l = l.own.queue ≡ l.queue
