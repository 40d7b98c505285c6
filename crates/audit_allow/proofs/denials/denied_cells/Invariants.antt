use Rattle.std.proofs.Common.{take}
use Rattle.audit_allow.specs.Cells.{AreDenied}
use Rattle.audit_allow.proofs.denials.denied_cells.Given as goal

abbrev pub invariant-questions : goal.invariant-questions
invariant-questions l = AreDenied (record { policy = l.policy; contexts = l.sids; asked = take l.question-index l.asked }) l.cells
