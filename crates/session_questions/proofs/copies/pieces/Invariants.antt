use Rattle.std.proofs.Common.{◌≡◌, take}
use Rattle.session_questions.proofs.copies.pieces.Given as goal

abbrev pub invariant-names : goal.invariant-names
invariant-names l = l.copy ≡ take l.name-index l.names
