-- When two sessions say the same: all but the numbers of their lines.
use Rattle.std.specs.Prelude.{◌≡◌, ℕ, List, map, Ok}
use Rattle.policy_print.specs.Same.{IsSamePolicy}
use Rattle.session_text.specs.declared.session.RunLine.{RunLine}
use Rattle.session_text.specs.declared.session.SessionParts.{SessionParts}
use Rattle.session_text.specs.Reading.{session_of}

-- a line that runs, without its number
abbrev pub bare_line : RunLine → RunLine
bare_line line = record line { line = 0 }

-- the same session apart from the numbers of lines
pub record IsSameSession (one other : SessionParts) : Type 0 where
  pub policy : IsSamePolicy one.policy other.policy
  pub root : one.root ≡ other.root
  pub port : one.port ≡ other.port
  pub ports : one.ports ≡ other.ports
  pub audit : one.audit ≡ other.audit
  pub nodes : one.nodes ≡ other.nodes
  pub clients : one.clients ≡ other.clients
  pub lines : map bare_line one.lines ≡ map bare_line other.lines

-- a text is a session that says the same as this one
abbrev pub IsTextOf : SessionParts → List ℕ → Type 0
IsTextOf session bytes = (next : SessionParts) × (session_of bytes ≡ Ok next) × IsSameSession next session
