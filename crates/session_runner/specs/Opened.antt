-- A session that is opened.
use Rattle.std.specs.Prelude.{◌≡◌, false, length}
use Rattle.access_vectors.specs.Decisions.{Decisions}
use Rattle.session_managers.specs.SessionViews.{none_told}
use Rattle.session_text.specs.declared.session.SessionParts.{SessionParts}
use Rattle.session_runner.specs.Runners.{Running}
use Rattle.session_runner.specs.Runs.{first_state, openings_of}
use Rattle.session_runner.specs.Underway.{MayRun}
use Rattle.session_runner.specs.declared.opening.Opened.{Opened}
use Rattle.session_runner.specs.declared.opening.RunParts.{RunParts}

-- what a session is run from: what its managers are opened with; its lines, policy and clients, and whether audit lines are printed, as the
-- session has them
pub record AreRunParts (session : SessionParts) (parts : RunParts) : Type 0 where
  pub openings_are : parts.openings ≡ openings_of session
  pub lines_are : parts.lines.items ≡ session.lines
  pub policy_is : parts.policy ≡ session.policy
  pub clients_are : parts.clients ≡ session.clients
  pub audit_is : parts.audit ≡ session.audit

-- a runner before the first line of a session
abbrev pub first_runner : {Decider : Type 0} → Decider → SessionParts → Running Decider
first_runner decider session = record { state = first_state session; decider = decider; told = none_told; clients = length session.clients; stopped = false }

-- a session was opened on a decider: the runner stands before its first line, and its lines may run
pub record IsOpened {Decider : Type 0} (decides : Decider → Decisions) (decider : Decider) (session : SessionParts) (opened : Opened Decider) : Type 0 where
  pub runner_is : opened.runner ≡ first_runner decider session
  pub lines_are : opened.lines.items ≡ session.lines
  pub policy_is : opened.policy ≡ session.policy
  pub clients_are : opened.clients ≡ session.clients
  pub audit_is : opened.audit ≡ session.audit
  pub may : MayRun (decides decider) (length session.clients) (first_state session) session.lines
