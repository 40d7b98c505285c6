-- A run on its way.
use Rattle.std.specs.Prelude.{ℕ, ◌+◌, ◌<◌, ◌^◌, IsTrue, List, length, All}
use Rattle.access_vectors.specs.Decisions.{Decisions}
use Rattle.session_text.specs.Sessions.{IsRun}
use Rattle.session_text.specs.declared.session.Run.TheVariants as run
use Rattle.session_text.specs.declared.session.RunLine.{RunLine}
use Rattle.session_managers.specs.declared.acting.Call.{Call}
use Rattle.session_managers.specs.declared.acting.Call.TheVariants as call
use Rattle.session_managers.specs.SessionStates.{SessionState}

-- a client's call names what is known and one of so many clients, as its line has to
abbrev pub IsCall : (ℕ → Type 0) → ℕ → ℕ → Call → Type 0
IsCall known clients client (call.File asks) = IsRun known clients (run.File client asks)
IsCall known clients client (call.Process asks) = IsRun known clients (run.Process client asks)
IsCall known clients client (call.Port asks) = IsRun known clients (run.Port client asks)

-- lines may run from this state on: each names what is known and one of so many clients, and the counts
-- have room for the lines
pub record MayRun (d : Decisions) (clients : ℕ) (state : SessionState) (lines : List RunLine) : Type 0 where
  pub formed : All (λ line. IsRun (λ sid. IsTrue (d.known sid)) clients line.run) lines
  pub calls : state.calls + length lines < 2 ^ 64
  pub changes : state.changes + length lines < 2 ^ 64
