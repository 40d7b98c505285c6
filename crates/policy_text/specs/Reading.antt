-- Reading a policy text line after line.
use Rattle.std.specs.Prelude.{◌≡◌, ℕ, ◌+◌, ◌≤◌, List, Option, None, Result, Ok, Err}
use Rattle.flask_sid.specs.declared.context.ContextOf.{ContextOf}
use Rattle.text_lines.specs.declared.fault.Refusal.{Refusal}
use Rattle.text_lines.specs.declared.fault.Refusal.TheVariants as refusal
use Rattle.text_lines.specs.declared.fault.TextFault.{TextFault}
use Rattle.text_lines.specs.declared.fault.TextFault.TheVariants as text_fault
use Rattle.text_lines.specs.Refusals.{FailsText}
use Rattle.policy_text.specs.Above.{contexts_in}
use Rattle.text_lines.specs.ResultSteps.{◌>>=◌, LineFault, at_line}
use Rattle.policy_model.specs.declared.policy.PolicyParts.{PolicyParts}
use Rattle.policy_text.specs.Grammar.{line_read}
use Rattle.policy_model.specs.Kept.{GrownAbove}

-- the number of the next line, and what the lines above it say: nothing above `policy 1`
pub record Reading : Type 0 where
  pub number : ℕ
  pub above : Option PolicyParts

-- where reading stands above the first line
abbrev pub begun : Reading
begun = record { number = 1; above = None }

-- where it stands below one line more, or the fault of that line
unfoldable pub read_on : Reading → List ℕ → Result Reading LineFault
read_on reading line =
    at_line reading.number (line_read reading.number line reading.above) >>= λ above. Ok (record { number = reading.number + 1; above = above })

-- what a reader keeps: it has not gone past the last line that may stand, and what is read is kept
pub record IsLawful (number : ℕ) (above : Option PolicyParts) : Type 0 where
  pub counted : number ≤ 100001
  pub grown : GrownAbove above

-- the fault of line n, which was refused
abbrev pub IsRefusedAt : TextFault → ℕ → Refusal → Type 0
IsRefusedAt fault n (refusal.Fault kind) = fault ≡ text_fault.Text n kind
IsRefusedAt fault n refusal.Memory = fault ≡ text_fault.Memory

-- the answer is what is said of a text that ends here: a policy with its contexts, or the fault
abbrev pub IsEnded : Result (PolicyParts × List (ContextOf (List ℕ))) TextFault → Result PolicyParts LineFault → Type 0
IsEnded (Ok gained) said = (said ≡ Ok gained.0) × (gained.1 ≡ contexts_in gained.0.contexts)
IsEnded (Err e) said = FailsText e said
