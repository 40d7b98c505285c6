-- How far a session text was read, below its policy, and what its readers keep.
use Rattle.std.specs.Prelude.{◌≡◌, ℕ, ◌<◌, ◌≤◌, List, [], All, Result, Ok, Err}
use Rattle.text_lines.specs.Refusals.{Fails}
use Rattle.text_lines.specs.declared.fault.FaultKind.{FaultKind}
use Rattle.text_lines.specs.declared.fault.Refusal.{Refusal}
use Rattle.session_text.specs.Grammar.{Setup}
use Rattle.session_text.specs.Sessions.{IsSession}
use Rattle.session_text.specs.declared.session.RunLine.{RunLine}
use Rattle.session_text.specs.declared.session.SessionParts.{SessionParts}

-- how far session lines were read: the number of the next line, and what those above it said
pub record SetupReading : Type 0 where
  pub number : ℕ
  pub above : Setup

-- how far the lines that run were read: the number of the next line, and the session so far
pub record RunReading : Type 0 where
  pub number : ℕ
  pub above : SessionParts

-- what session lines keep: a session of which no line runs yet
pub record IsSetUp (session : SessionParts) : Type 0 where
  pub kept : IsSession session
  pub idle : session.lines ≡ []

-- these lines stand above the line of that number
abbrev pub AreAbove : ℕ → List RunLine → Type 0
AreAbove number lines = All (λ line. line.line < number) lines

-- what a reader of the lines that run keeps: it has not gone past the last line that may stand, and the session's
-- lines stand above the next one
pub record IsAtLine (number : ℕ) (session : SessionParts) : Type 0 where
  pub counted : number ≤ 100001
  pub above : AreAbove number session.lines

-- a state became what is said of the line, or the answer is the fault that is said of it
abbrev pub Becomes : {S : Type 0} → Result (Unit {0}) Refusal → S → Result S FaultKind → Type 0
Becomes (Ok done) now said = said ≡ Ok now
Becomes (Err e) now said = Fails e said
