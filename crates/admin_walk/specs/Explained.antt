-- Versions that the administrator's lines explain.
use Rattle.std.specs.Prelude.{◌≡◌, ℕ, ◌⊎◌, Bool, true, false, not, ◌&&◌, nat_lt, List, [], ◌∷◌}
use Rattle.session_text.specs.declared.session.Run.{Run}
use Rattle.session_text.specs.declared.session.Run.TheVariants as run
use Rattle.session_text.specs.declared.session.RunLine.{RunLine}

-- what is to hold of the versions that are left and of whether a change is pending, after a line
abbrev pub Later : Type 1
Later = Bool → List ℕ → Type 0

-- a notice takes the next version, which is its own, and a change is pending; or it changes nothing
abbrev pub TakesIf : Bool → ℕ → Bool → List ℕ → Later → Type 0
TakesIf true version pending chosen later = (left : List ℕ) × (chosen ≡ version ∷ left) × later true left
TakesIf false version pending chosen later = later pending chosen

-- an acknowledgement of a pending change settles it or changes nothing; where each is to settle, it settles it
abbrev pub SettlesIf : Bool → Bool → List ℕ → Later → Type 0
SettlesIf always false chosen later = later false chosen
SettlesIf true true chosen later = later false chosen
SettlesIf false true chosen later = later false chosen ⊎ later true chosen

-- a line: of a notice of a version that there is, while none is pending, it is taken; an acknowledgement, forced or not, may
-- settle; all else changes nothing
abbrev pub ExplainsLine : Bool → ℕ → Bool → Run → List ℕ → Later → Type 0
ExplainsLine always versions pending (run.Notify version) chosen later = TakesIf (nat_lt version versions && not pending) version pending chosen later
ExplainsLine always versions pending run.Ack chosen later = SettlesIf always pending chosen later
ExplainsLine always versions pending run.Force chosen later = SettlesIf always pending chosen later
ExplainsLine always versions pending other chosen later = later pending chosen

-- versions are explained by lines: walking the lines, from whether a change is pending, takes them one after another, and at the end
-- none is left over
abbrev pub Explains : Bool → ℕ → Bool → List RunLine → List ℕ → Type 0
Explains always versions pending [] chosen = chosen ≡ []
Explains always versions pending (line ∷ lines) chosen =
    ExplainsLine always versions pending line.run chosen (λ now left. Explains always versions now lines left)
