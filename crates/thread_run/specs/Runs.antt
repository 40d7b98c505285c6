-- A run of a session from its stations, and how it ends.
use Rattle.std.specs.Prelude.{◌≡◌, ℕ, ◌<◌, ◌≤◌, ◌+◌, true, false, List, [], ◌∷◌, ◌++◌, map, length, All, slice_get, Some, Ok, is_ok}
use Rattle.std.specs.Global.{Vec}
use mathlib.Core.Option.{some}
use lib.ListN.{get_elem?}
use Rattle.access_vectors.specs.Decisions.{Decisions}
use Rattle.retained_rights.specs.declared.callbacks.EachBits.{EachBits}
use Rattle.retained_rights.specs.declared.callbacks.AllBits.{AllBits}
use Rattle.manager_history.specs.declared.entry.Entry.{Entry}
use Rattle.file_calls.specs.declared.call.FileCall.{FileCall}
use Rattle.file_calls.specs.declared.call.FileReply.{FileReply}
use Rattle.process_calls.specs.declared.call.ProcessCall.{ProcessCall}
use Rattle.process_calls.specs.declared.call.ProcessReply.{ProcessReply}
use Rattle.port_calls.specs.declared.call.PortCall.{PortCall}
use Rattle.port_calls.specs.declared.call.PortReply.{PortReply}
use Rattle.gate_rule.specs.History.{of_caller}
use Rattle.gate_rule.specs.declared.view.Ended.{Ended}
use Rattle.epoch_gate.specs.Seats.{SeatView, Site, IsOfGate}
use Rattle.epoch_gate.specs.Known.{decider_of, caller_number, own_entries, seats_made, seats_retired, turns_had, IsIdle}
use Rattle.managed_run.specs.Kinds.{kind_of}
use Rattle.managed_run.specs.Administering.{turn_of}
use Rattle.audit_queue.specs.Pens.{QueueId, Posted, Taken}
use Rattle.session_text.specs.declared.session.RunLine.{RunLine}
use Rattle.session_text.specs.declared.session.SessionParts.{SessionParts}
use Rattle.admin_walk.specs.Explained.{Explains}
use Rattle.admin_walk.specs.Moves.{versions_of}
use Rattle.client_script.specs.Scripts.{script_of, admin_script}
use Rattle.client_script.specs.Clients.{AreOf, HaveRoom, HasRun, HaveNone, AreSeated, IsFormedFor, standings_of}
use Rattle.client_script.specs.declared.stations.Stations.{Stations}
use Rattle.client_script.specs.declared.stations.Seats.{Seats}
use Rattle.run_histories.specs.Histories.{IsWalked, file_opening, process_opening, port_opening}
use Rattle.run_histories.specs.Retiring.{MayLeave}
use Rattle.thread_run.specs.declared.clients.Slot.{Slot}
use Rattle.station_start.specs.declared.started.Admins.{Admins}
use Rattle.thread_run.specs.declared.prepared.Prepared.{Prepared}
use Rattle.thread_run.specs.Managers.{AreStations, AreBefore, MayBegin}

module _ {E D O : Type 0} where
  -- what an administrator keeps of a seat that it retires: its number, and its own entries
  abbrev pub kept_of : SeatView E D O → Ended E
  kept_of seat = record { number = caller_number seat; entries = own_entries seat }

  -- an administrator that retired these seats more, in order: it is the station's, and has the turns and the turn as before
  pub record HasRetiredAll (site : Site D O) (seats : List (SeatView E D O)) (was now : SeatView E D O) : Type 0 where
    pub gate : IsOfGate site now
    pub made : seats_made now ≡ seats_made was
    pub ended : seats_retired now ≡ seats_retired was ++ map kept_of seats
    pub turns : turns_had now ≡ turns_had was
    pub ticket : now.view.ticket ≡ was.view.ticket

  -- the administrator of a station whose clients are to leave: it is the station's and has not the turn; it made so many seats, and
  -- retired none
  pub record IsManned (seats : ℕ) (site : Site D O) (admin : SeatView E D O) : Type 0 where
    pub gate : IsOfGate site admin
    pub idle : IsIdle admin
    pub made : seats_made admin ≡ seats
    pub retired : seats_retired admin ≡ []

-- a pen of a queue before it posted
abbrev pub new_pen : QueueId → ℕ → Posted
new_pen queue number = record { queue = queue; number = number; lines = [] }

module _ {D : Type 0} where
  -- the clients' places from number n on: by the number of the client its seats, its script, and a pen of that number
  abbrev pub slots_of : QueueId → ℕ → List (Seats D EachBits AllBits AllBits) → List (Vec RunLine) → List (Slot D)
  slots_of queue n [] scripts = []
  slots_of queue n (seats ∷ rest) [] = []
  slots_of queue n (seats ∷ rest) (script ∷ scripts) = record { seats = seats; pen = new_pen queue n; lines = script; ended = Ok tt } ∷ slots_of queue (n + 1) rest scripts

  -- a taker that keeps what the pens of these places posted
  abbrev pub with_pens : Taken → List (Slot D) → Taken
  with_pens taker slots = record taker { kept = taker.kept ++ map (λ slot. record { pen = slot.pen.number; lines = slot.pen.lines }) slots }

  -- a client is ready: its seats are the stations' and have its number, it did nothing yet, and may enter more often than its script
  -- has lines; and each call of the script is well formed
  pub record IsReady (decides : D → Decisions) (stations : Stations D EachBits AllBits AllBits) (client : ℕ) (seats : Seats D EachBits AllBits AllBits) (script : List RunLine) : Type 0 where
    pub seated : AreSeated stations seats
    pub fresh : HaveNone (standings_of seats)
    pub client_is : AreOf client (standings_of seats)
    pub room : HaveRoom (length script) (standings_of seats)
    pub formed : All (λ line. IsFormedFor decides stations client line.run) script

  -- a session may be run: its clients are few and each is ready, and the administrator's worker may begin
  pub record MayRun (decides : D → Decisions) (prepared : Prepared D) : Type 0 where
    pub staff : MayBegin (length prepared.seats.items) prepared.stations prepared.staff
    pub few : length prepared.seats.items ≤ 62
    pub many : length prepared.scripts.items ≡ length prepared.seats.items
    pub each : (client : ℕ) (seats : Seats D EachBits AllBits AllBits) (script : Vec RunLine) → slice_get prepared.seats.items client ≡ Some seats → slice_get prepared.scripts.items client ≡ Some script
        → IsReady decides prepared.stations client seats script.items

  -- this session was prepared: the stations were opened with what it opens them with, there are seats for each of its clients, and the
  -- scripts are those of its lines
  pub record IsPrepared (session : SessionParts) (prepared : Prepared D) : Type 0 where
    pub opened_files : prepared.stations.files.fixed.opening.core.opening ≡ file_opening session
    pub opened_processes : prepared.stations.processes.fixed.opening.core.opening ≡ process_opening session
    pub opened_ports : prepared.stations.ports.fixed.opening.core.opening ≡ port_opening session
    pub clients : length prepared.seats.items ≡ length session.clients
    pub scripts : (client : ℕ) (script : Vec RunLine) → slice_get prepared.scripts.items client ≡ Some script → script.items ≡ script_of client session.lines
    pub admin : prepared.staff.script.items ≡ admin_script session.lines

  -- each client may leave
  abbrev pub MayAllLeave : Stations D EachBits AllBits AllBits → List (Slot D) → Type 0
  MayAllLeave stations slots = All (λ slot. MayLeave stations slot.seats) slots

  -- every client's seats were retired, in order
  pub record HaveAllLeft (stations : Stations D EachBits AllBits AllBits) (slots : List (Slot D)) (was now : Admins D) : Type 0 where
    pub files : HasRetiredAll stations.files (map (λ slot. slot.seats.files) slots) was.files now.files
    pub processes : HasRetiredAll stations.processes (map (λ slot. slot.seats.processes) slots) was.processes now.processes
    pub ports : HasRetiredAll stations.ports (map (λ slot. slot.seats.ports) slots) was.ports now.ports

  -- histories have, as the calls of each client, exactly its own entries
  pub record HaveCalls (slots : List (Slot D)) (files : List (Entry FileCall FileReply)) (processes : List (Entry ProcessCall ProcessReply)) (ports : List (Entry PortCall PortReply)) : Type 0 where
    pub files_are : (client : ℕ) (slot : Slot D) → slice_get slots client ≡ Some slot → own_entries slot.seats.files ≡ of_caller kind_of (caller_number slot.seats.files) files
    pub processes_are : (client : ℕ) (slot : Slot D) → slice_get slots client ≡ Some slot → own_entries slot.seats.processes ≡ of_caller kind_of (caller_number slot.seats.processes) processes
    pub ports_are : (client : ℕ) (slot : Slot D) → slice_get slots client ≡ Some slot → own_entries slot.seats.ports ≡ of_caller kind_of (caller_number slot.seats.ports) ports

  -- the administrators of stations whose clients, so many, are to leave
  pub record AreManned (seats : ℕ) (stations : Stations D EachBits AllBits AllBits) (admins : Admins D) : Type 0 where
    pub files : IsManned seats stations.files admins.files
    pub processes : IsManned seats stations.processes admins.processes
    pub ports : IsManned seats stations.ports admins.ports

  -- a session was run at stations by these clients and administrators: they were opened from it, with one decider; the client in each
  -- place has that number, and ran its whole script; and the administrators' turns are those of the session
  pub record WasRun (decides : D → Decisions) (session : SessionParts) (chosen : List (ℕ × ℕ)) (stations : Stations D EachBits AllBits AllBits) (slots : List (Slot D)) (admins : Admins D) : Type 0 where
    pub opened_files : stations.files.fixed.opening.core.opening ≡ file_opening session
    pub opened_processes : stations.processes.fixed.opening.core.opening ≡ process_opening session
    pub opened_ports : stations.ports.fixed.opening.core.opening ≡ port_opening session
    pub decider_processes : decider_of stations.processes ≡ decider_of stations.files
    pub decider_ports : decider_of stations.ports ≡ decider_of stations.files
    pub clients : length slots ≡ length session.clients
    pub each : (client : ℕ) (slot : Slot D) → slice_get slots client ≡ Some slot → AreOf client (standings_of slot.seats) × HasRun client (script_of client session.lines) (standings_of slot.seats)
    pub files : IsWalked session.lines chosen (map turn_of (turns_had admins.files))
    pub processes : IsWalked session.lines chosen (map turn_of (turns_had admins.processes))
    pub ports : IsWalked session.lines chosen (map turn_of (turns_had admins.ports))
    pub explained : Explains false (decides (decider_of stations.files)).versions false (admin_script session.lines) (versions_of chosen)
    pub at_once : session.clients ≡ [] → Explains true (decides (decider_of stations.files)).versions false (admin_script session.lines) (versions_of chosen)
