-- What a call may answer where a definition says what its text gives. Want of memory is free: it may come at any time.
use Rattle.std.specs.Prelude.{◌≡◌, Result, Ok, Err}
use Rattle.text_lines.specs.ResultSteps.{LineFault}
use Rattle.text_lines.specs.declared.fault.FaultKind.{FaultKind}
use Rattle.text_lines.specs.declared.fault.Refusal.{Refusal}
use Rattle.text_lines.specs.declared.fault.Refusal.TheVariants as refusal
use Rattle.text_lines.specs.declared.fault.TextFault.{TextFault}
use Rattle.text_lines.specs.declared.fault.TextFault.TheVariants as text_fault

-- this refusal is what is said of the line
abbrev pub Fails : {X : Type 0} → Refusal → Result X FaultKind → Type 0
Fails refusal.Memory said = Unit {0}
Fails (refusal.Fault kind) said = said ≡ Err kind

-- the answer is what is said of the line
abbrev pub Gives : {X : Type 0} → Result X Refusal → Result X FaultKind → Type 0
Gives (Ok x) said = said ≡ Ok x
Gives (Err e) said = Fails e said

-- this fault is what is said of the text
abbrev pub FailsText : {X : Type 0} → TextFault → Result X LineFault → Type 0
FailsText text_fault.Memory said = Unit {0}
FailsText (text_fault.Text line kind) said = said ≡ Err (record { line = line; kind = kind })

-- the answer is what is said of the text
abbrev pub GivesText : {X : Type 0} → Result X TextFault → Result X LineFault → Type 0
GivesText (Ok x) said = said ≡ Ok x
GivesText (Err e) said = FailsText e said
