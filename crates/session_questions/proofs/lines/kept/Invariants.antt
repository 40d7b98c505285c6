use Rattle.std.proofs.Common.{◌≡◌, take}
use Rattle.session_questions.proofs.lines.kept.Given as goal

abbrev pub invariant-questions : goal.invariant-questions
invariant-questions l = l.kept ≡ take l.question-index l.asked
