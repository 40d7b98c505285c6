use Rattle.std.proofs.Common.{length}
use Rattle.mode_questions.proofs.operation.Operation.+ask_mode.Given as goal

abbrev pub decreases-ask_mode : goal.decreases-ask_mode
decreases-ask_mode g l = length l.perms.now
