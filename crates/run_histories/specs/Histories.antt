-- The three histories of a threaded run.
use Rattle.std.specs.Prelude.{◌≡◌, ℕ, ◌<◌, ◌≤◌, true, false, List, [], map, length}
use Rattle.access_vectors.specs.Decisions.{Decisions}
use Rattle.access_vectors.specs.Phases.{is_pending}
use Rattle.manager_history.specs.declared.entry.Entry.{Entry}
use Rattle.manager_history.specs.Answers.{Manager}
use Rattle.manager_history.specs.Histories.{start_of, IsLawful}
use Rattle.managed.specs.Seen.{Turn}
use mathlib.Core.Option.{some}
use lib.ListN.{get_elem?}
use Rattle.gate_rule.specs.declared.view.Item.{Item}
use Rattle.gate_rule.specs.declared.view.Ended.{Ended}
use Rattle.epoch_gate.specs.Seats.{SeatView, Site, IsOfGate}
use Rattle.epoch_gate.specs.Known.{decider_of, seats_made, seats_retired, turns_had, IsIdle}
use Rattle.managed_run.specs.Administering.{turn_of}
use Rattle.managed_run.specs.declared.docket.Opened.{Opened}
use Rattle.file_manager.specs.declared.file_core.FileCore.{FileCore}
use Rattle.process_manager.specs.declared.process_core.ProcessCore.{ProcessCore}
use Rattle.port_manager.specs.declared.port_core.PortCore.{PortCore}
use Rattle.client_script.specs.declared.stations.Stations.{Stations}
use Rattle.gate_rule.specs.History.{of_caller, controls}
use Rattle.gate_rule.specs.Views.{entries_of}
use Rattle.managed_run.specs.Kinds.{kind_of, phase_of}
use Rattle.file_calls.specs.PlainManager as file_plain
use Rattle.file_calls.specs.States as file_states
use Rattle.file_calls.specs.declared.call.FileCall.{FileCall}
use Rattle.file_calls.specs.declared.call.FileReply.{FileReply}
use Rattle.file_calls.specs.declared.opening.FileOpening.{FileOpening}
use Rattle.process_calls.specs.PlainManager as process_plain
use Rattle.process_calls.specs.States as process_states
use Rattle.process_calls.specs.declared.call.ProcessCall.{ProcessCall}
use Rattle.process_calls.specs.declared.call.ProcessReply.{ProcessReply}
use Rattle.process_calls.specs.declared.opening.ProcessOpening.{ProcessOpening}
use Rattle.port_calls.specs.PlainManager as port_plain
use Rattle.port_calls.specs.States as port_states
use Rattle.port_calls.specs.declared.call.PortCall.{PortCall}
use Rattle.port_calls.specs.declared.call.PortReply.{PortReply}
use Rattle.port_calls.specs.declared.opening.PortOpening.{PortOpening}
use Rattle.session_text.specs.declared.session.Run.{Run}
use Rattle.session_text.specs.declared.session.RunLine.{RunLine}
use Rattle.session_text.specs.declared.session.SessionParts.{SessionParts}
use Rattle.client_acts.specs.Acts.{Act}
use Rattle.client_script.specs.Scripts.{script_of, admin_script, file_act, process_act, port_act, IsWhole}
use Rattle.admin_walk.specs.Explained.{Explains}
use Rattle.admin_walk.specs.Moves.{notices_of, forced_of, versions_of, forces}
use Rattle.run_histories.specs.Changes.{noticed_in, forced_in}

-- what a session opens each of its managers with
abbrev pub file_opening : SessionParts → FileOpening
file_opening session = record { clients = map (λ client. client.sid) session.clients; root = session.root; nodes = session.nodes }

abbrev pub process_opening : SessionParts → ProcessOpening
process_opening session = record { clients = map (λ client. client.sid) session.clients }

abbrev pub port_opening : SessionParts → PortOpening
port_opening session = record { clients = map (λ client. client.sid) session.clients; initial = session.port; ports = session.ports }

-- a history holds the scripts of so many clients, by what a line does at the manager: the calls of each client, done or aborted, are
-- those of its lines, each once, in order, with the numbers of the lines as their marks; their policy numbers never fall, and between a
-- `begin` and the next `end`, or the script's end, they are equal; and no one else has a call
pub record HoldsScripts {Call Reply : Type 0} (act : ℕ → Run → List (Act Call)) (clients : ℕ) (lines : List RunLine) (log : List (Entry Call Reply)) : Type 0 where
  pub whole : (client : ℕ) → client < clients → IsWhole act client (script_of client lines) (of_caller kind_of client log)
  pub others : (client : ℕ) → clients ≤ client → of_caller kind_of client log ≡ []

-- a history is one of a threaded run, by its manager and what it was opened with: it is lawful, holds every client's script, and ends
-- settled; and it has a forced acknowledgement only where a line forces one
pub record IsOneOf {Call Reply State : Type 0} (plain : Manager Call Reply State) (formed : Decisions → State → ℕ → Call → Type 0) (d : Decisions) (opening : State)
    (act : ℕ → Run → List (Act Call)) (clients : ℕ) (lines : List RunLine) (log : List (Entry Call Reply)) : Type 0 where
  pub lawful : IsLawful plain formed d (start_of opening) log
  pub scripts : HoldsScripts act clients lines log
  pub settled : is_pending (phase_of log) ≡ false
  pub unforced : forces lines ≡ false → forced_in log ≡ []

-- what a station's end and its administrator's turns tell of its history: each client's calls are its whole script, no one else has
-- a call, and the notices and acknowledgements are the entries of the turns
pub record IsClosed {Call Reply : Type 0} (act : ℕ → Run → List (Act Call)) (clients : ℕ) (lines : List RunLine) (turns : List (Item (Entry Call Reply))) (log : List (Entry Call Reply)) : Type 0 where
  pub scripts : HoldsScripts act clients lines log
  pub changes : controls kind_of log ≡ entries_of turns

-- what the administrator's worker tells of the turns at a station: their notices are these, and none is forced unless a line forces
pub record IsWalked (lines : List RunLine) (chosen : List (ℕ × ℕ)) (turns : List Turn) : Type 0 where
  pub notices : notices_of turns ≡ chosen
  pub unforced : forces lines ≡ false → forced_of turns ≡ []

-- what is known of a station's administrator once a session was run there and all seats are retired: there was a seat for each client,
-- whose own entries are its whole script, and the turns are those of the administrator's worker
pub record HasRunAt {Call Reply D O : Type 0} (act : ℕ → Run → List (Act Call)) (session : SessionParts) (chosen : List (ℕ × ℕ)) (admin : SeatView (Entry Call Reply) D O) : Type 0 where
  pub made : seats_made admin ≡ length session.clients
  pub whole : (client : ℕ) → client < length session.clients
      → (i : ℕ) × (e : Ended (Entry Call Reply)) × (get_elem? (seats_retired admin) i ≡ some e) × (e.number ≡ client) × IsWhole act client (script_of client session.lines) e.entries
  pub walked : IsWalked session.lines chosen (map turn_of (turns_had admin))

-- a station may be ended: its administrator is its own and has not the turn, and every seat is retired
pub record MayEnd {Call Reply D O : Type 0} (site : Site D O) (admin : SeatView (Entry Call Reply) D O) : Type 0 where
  pub gate : IsOfGate site admin
  pub out : seats_made admin ≡ length (seats_retired admin)
  pub idle : IsIdle admin

-- a history has, for each seat that was retired at its station, exactly the seat's own entries as the calls of its number
abbrev pub KeepsCalls : {Call Reply D O : Type 0} → SeatView (Entry Call Reply) D O → List (Entry Call Reply) → Type 0
KeepsCalls {Call = Call} {Reply = Reply} admin log =
    (k : ℕ) (one : Ended (Entry Call Reply)) → get_elem? (seats_retired admin) k ≡ some one → one.entries ≡ of_caller kind_of one.number log

-- a session was run at three stations: they were opened from it, with one decider; at each the clients' scripts and the administrator's
-- turns are those of the session; and the administrator's script explains the versions noticed
pub record HasRun {D F P Q : Type 0} (decides : D → Decisions) (session : SessionParts) (chosen : List (ℕ × ℕ)) (stations : Stations D F P Q)
    (files : SeatView (Entry FileCall FileReply) D (Opened (FileCore F))) (processes : SeatView (Entry ProcessCall ProcessReply) D (Opened (ProcessCore P)))
    (ports : SeatView (Entry PortCall PortReply) D (Opened (PortCore Q))) : Type 0 where
  pub opened_files : stations.files.fixed.opening.core.opening ≡ file_opening session
  pub opened_processes : stations.processes.fixed.opening.core.opening ≡ process_opening session
  pub opened_ports : stations.ports.fixed.opening.core.opening ≡ port_opening session
  pub decider_processes : decider_of stations.processes ≡ decider_of stations.files
  pub decider_ports : decider_of stations.ports ≡ decider_of stations.files
  pub at_files : HasRunAt file_act session chosen files
  pub at_processes : HasRunAt process_act session chosen processes
  pub at_ports : HasRunAt port_act session chosen ports
  pub explained : Explains false (decides (decider_of stations.files)).versions false (admin_script session.lines) (versions_of chosen)
  pub at_once : session.clients ≡ [] → Explains true (decides (decider_of stations.files)).versions false (admin_script session.lines) (versions_of chosen)

-- three histories are those of a threaded run of a session under these decisions: each is one; they have the same notices; and the
-- session's lines explain the versions of the notices, where there are no clients with each acknowledgement of a pending change
-- settling it
pub record AreOfRun (d : Decisions) (session : SessionParts) (files : List (Entry FileCall FileReply)) (processes : List (Entry ProcessCall ProcessReply))
    (ports : List (Entry PortCall PortReply)) : Type 0 where
  pub of_files : IsOneOf file_plain.answer file_plain.IsFormed d (file_states.opened_with (file_opening session)) file_act (length session.clients) session.lines files
  pub of_processes : IsOneOf process_plain.answer process_plain.IsFormed d (process_states.opened_with (process_opening session)) process_act (length session.clients) session.lines processes
  pub of_ports : IsOneOf port_plain.answer port_plain.IsFormed d (port_states.opened_with (port_opening session)) port_act (length session.clients) session.lines ports
  pub same_processes : noticed_in processes ≡ noticed_in files
  pub same_ports : noticed_in ports ≡ noticed_in files
  pub explained : Explains false d.versions false session.lines (versions_of (noticed_in files))
  pub at_once : session.clients ≡ [] → Explains true d.versions false session.lines (versions_of (noticed_in files))
