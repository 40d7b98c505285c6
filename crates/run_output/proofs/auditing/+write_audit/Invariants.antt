use Rattle.std.proofs.Common.{length}
use Rattle.run_output.proofs.auditing.+write_audit.Given as goal

abbrev pub decreases-write_audit : goal.decreases-write_audit
decreases-write_audit g l = length l.clients.now
