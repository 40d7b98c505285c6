use Rattle.std.proofs.Common.{length}
use Rattle.mode_questions.proofs.slot_uses.+judge_mode.Given as goal

abbrev pub decreases-judge_mode : goal.decreases-judge_mode
decreases-judge_mode l = length l.perms.now
