-- Steps of which each may fail, and then the whole does, with the first failure.
use Rattle.std.specs.Prelude.{ℕ, ◌+◌, List, [], ◌∷◌, Option, Some, None, Result, Ok, Err}
use Rattle.text_lines.specs.declared.fault.FaultKind.{FaultKind}

infixl 10 ◌>>=◌
-- the next step on what was gained
abbrev pub ◌>>=◌ : {A B E : Type 0} → Result A E → (A → Result B E) → Result B E
Ok gained >>= next = next gained
Err fault >>= next = Err fault

-- what was found, or this fault where nothing was
abbrev pub found_or : {A E : Type 0} → E → Option A → Result A E
found_or fault None = Err fault
found_or fault (Some found) = Ok found

-- a faulty line of a text, counted from 1, and what is wrong with it
pub record LineFault : Type 0 where
  pub line : ℕ
  pub kind : FaultKind

-- a fault of line number n
abbrev pub at_line : {S : Type 0} → ℕ → Result S FaultKind → Result S LineFault
at_line n (Ok state) = Ok state
at_line n (Err kind) = Err (record { line = n; kind = kind })

-- what lines make of a state, the first of them being number n, or the first faulty one
abbrev pub lines_fold : {S : Type 0} → (ℕ → List ℕ → S → Result S FaultKind) → ℕ → List (List ℕ) → S → Result S LineFault
lines_fold read n [] state = Ok state
lines_fold read n (line ∷ lines) state = at_line n (read n line state) >>= λ next. lines_fold read (n + 1) lines next
