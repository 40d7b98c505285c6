-- What a line does to the value that is read so far: where it has no fault, the value becomes what is said of the line.
use Rattle.std.specs.Prelude.{◌≡◌, Result, Ok, Err}
use Rattle.text_lines.specs.declared.fault.FaultKind.{FaultKind}
use Rattle.text_lines.specs.declared.fault.Refusal.{Refusal}
use Rattle.text_lines.specs.declared.fault.TextFault.{TextFault}
use Rattle.text_lines.specs.ResultSteps.{LineFault}
use Rattle.text_lines.specs.Refusals.{Fails, FailsText}

-- the value that is left is what is said of the line, or else the answer is the line's fault
abbrev pub Leaves : {X : Type 0} → Result Unit Refusal → X → Result X FaultKind → Type 0
Leaves (Ok done) left said = said ≡ Ok left
Leaves (Err e) left said = Fails e said

-- the value that is left is what is said of the text so far, or else the answer is the text's fault
abbrev pub LeavesText : {X : Type 0} → Result Unit TextFault → X → Result X LineFault → Type 0
LeavesText (Ok done) left said = said ≡ Ok left
LeavesText (Err e) left said = FailsText e said
