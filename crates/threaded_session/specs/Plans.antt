-- What a session is run with.
use Rattle.std.specs.Prelude.{◌≡◌, ◌≤◌, IsTrue, length, All}
use Rattle.access_vectors.specs.Decisions.{Decisions}
use Rattle.session_text.specs.Sessions.{IsRun}
use Rattle.session_text.specs.declared.session.SessionParts.{SessionParts}
use Rattle.session_managers.specs.SessionViews.{AreOpenings}
use Rattle.run_histories.specs.Histories.{file_opening, process_opening, port_opening}
use Rattle.threaded_session.specs.declared.plan.Plan.{Plan}

-- a session may be run so: what the managers are opened with is known, each has the clients, who are few, and each line names what is
-- known and one of them
pub record MayRun (d : Decisions) (plan : Plan) : Type 0 where
  pub openings : AreOpenings d plan.openings
  pub of_files : length plan.openings.files.clients ≡ plan.clients
  pub of_processes : length plan.openings.processes.clients ≡ plan.clients
  pub of_ports : length plan.openings.ports.clients ≡ plan.clients
  pub few : plan.clients ≤ 62
  pub few_lines : length plan.lines.items ≤ 100001
  pub formed : All (λ line. IsRun (λ sid. IsTrue (d.known sid)) plan.clients line.run) plan.lines.items

-- this session is run so
pub record IsPlanOf (session : SessionParts) (plan : Plan) : Type 0 where
  pub files_are : plan.openings.files ≡ file_opening session
  pub processes_are : plan.openings.processes ≡ process_opening session
  pub ports_are : plan.openings.ports ≡ port_opening session
  pub clients_are : plan.clients ≡ length session.clients
  pub lines_are : plan.lines.items ≡ session.lines
