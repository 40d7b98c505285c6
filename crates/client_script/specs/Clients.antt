-- A client at the three stations.
use Rattle.std.specs.Prelude.{◌≡◌, ℕ, ◌<◌, ◌⊎◌, List, [], None}
use Rattle.access_vectors.specs.Decisions.{Decisions}
use Rattle.epoch_gate.specs.Seats.{SeatView, Site, IsOfGate}
use Rattle.epoch_gate.specs.Known.{decider_of, IsIdle}
use Rattle.file_calls.specs.PlainManager as file_plain
use Rattle.file_calls.specs.States as file_states
use Rattle.file_calls.specs.declared.call.FileCall.{FileCall}
use Rattle.file_calls.specs.declared.call.FileReply.{FileReply}
use Rattle.process_calls.specs.PlainManager as process_plain
use Rattle.process_calls.specs.States as process_states
use Rattle.process_calls.specs.declared.call.ProcessCall.{ProcessCall}
use Rattle.process_calls.specs.declared.call.ProcessReply.{ProcessReply}
use Rattle.port_calls.specs.PlainManager as port_plain
use Rattle.port_calls.specs.States as port_states
use Rattle.port_calls.specs.declared.call.PortCall.{PortCall}
use Rattle.port_calls.specs.declared.call.PortReply.{PortReply}
use Rattle.session_text.specs.declared.session.Run.{Run}
use Rattle.session_text.specs.declared.session.Run.TheVariants as run
use Rattle.session_text.specs.declared.session.RunLine.{RunLine}
use Rattle.client_script.specs.Scripts.{file_act, process_act, port_act, IsWhole, IsFrontOf}
use Rattle.client_acts.specs.Standings.{Standing, standing_of}
use Rattle.client_acts.specs.Moves.{HasMoved, HasCalledNone}
use Rattle.client_script.specs.declared.stations.Stations.{Stations}
use Rattle.client_script.specs.declared.stations.Seats.{Seats}

-- where a client stands at the three managers
pub record Standings : Type 0 where
  pub files : Standing FileCall FileReply
  pub processes : Standing ProcessCall ProcessReply
  pub ports : Standing PortCall PortReply

-- the client has this number at each
pub record AreOf (client : ℕ) (s : Standings) : Type 0 where
  pub files : s.files.client ≡ client
  pub processes : s.processes.client ≡ client
  pub ports : s.ports.client ≡ client

-- the client may enter each more often than so many times
pub record HaveRoom (times : ℕ) (s : Standings) : Type 0 where
  pub files : times < s.files.room
  pub processes : times < s.processes.room
  pub ports : times < s.ports.room

-- the client holds no pass
pub record HoldNone (s : Standings) : Type 0 where
  pub files : s.files.held ≡ None
  pub processes : s.processes.held ≡ None
  pub ports : s.ports.held ≡ None

-- the client did nothing yet: it holds no pass, and has no entry
pub record HaveNone (s : Standings) : Type 0 where
  pub held : HoldNone s
  pub files : s.files.mine ≡ []
  pub processes : s.processes.mine ≡ []
  pub ports : s.ports.mine ≡ []

-- after a line with its number: at each manager what it does there was done, and no more
pub record HasDone (mark : ℕ) (asks : Run) (s t : Standings) : Type 0 where
  pub files : HasMoved (file_act mark asks) s.files t.files
  pub processes : HasMoved (process_act mark asks) s.processes t.processes
  pub ports : HasMoved (port_act mark asks) s.ports t.ports

-- the client's own entries are as before
pub record HaveSame (s t : Standings) : Type 0 where
  pub files : t.files.mine ≡ s.files.mine
  pub processes : t.processes.mine ≡ s.processes.mine
  pub ports : t.ports.mine ≡ s.ports.mine

-- after a line that wanted memory: at each manager there is no new entry, or what the line does there was done
pub record HasStopped (mark : ℕ) (asks : Run) (s t : Standings) : Type 0 where
  pub files : HasCalledNone s.files t.files ⊎ HasMoved (file_act mark asks) s.files t.files
  pub processes : HasCalledNone s.processes t.processes ⊎ HasMoved (process_act mark asks) s.processes t.processes
  pub ports : HasCalledNone s.ports t.ports ⊎ HasMoved (port_act mark asks) s.ports t.ports

-- a script was run whole: at each manager the client's own entries are those of its calls, in order
pub record HasRun (client : ℕ) (lines : List RunLine) (s : Standings) : Type 0 where
  pub files : IsWhole file_act client lines s.files.mine
  pub processes : IsWhole process_act client lines s.processes.mine
  pub ports : IsWhole port_act client lines s.ports.mine

-- a script was run in part: at each manager the client's own entries are those of a front of it
pub record HasRunFront (client : ℕ) (lines : List RunLine) (s : Standings) : Type 0 where
  pub files : IsFrontOf file_act client lines s.files.mine
  pub processes : IsFrontOf process_act client lines s.processes.mine
  pub ports : IsFrontOf port_act client lines s.ports.mine

-- a seat is a station's, and has neither the turn nor a ticket for one
abbrev pub SitsAt : {E D O : Type 0} → Site D O → SeatView E D O → Type 0
SitsAt g s = IsOfGate g s × IsIdle s

module _ {D F P Q : Type 0} where
  -- where a client of these seats stands
  abbrev pub standings_of : Seats D F P Q → Standings
  standings_of seats = record { files = standing_of seats.files; processes = standing_of seats.processes; ports = standing_of seats.ports }

  -- seats are these stations', and have neither the turn nor a ticket for one
  pub record AreSeated (stations : Stations D F P Q) (seats : Seats D F P Q) : Type 0 where
    pub files : SitsAt stations.files seats.files
    pub processes : SitsAt stations.processes seats.processes
    pub ports : SitsAt stations.ports seats.ports

  -- the call of a line is well formed for a client at what the station was opened with
  abbrev pub IsFormedFor : (D → Decisions) → Stations D F P Q → ℕ → Run → Type 0
  IsFormedFor decides stations client (run.File who call) =
      file_plain.IsFormed (decides (decider_of stations.files)) (file_states.opened_with stations.files.fixed.opening.core.opening) client call
  IsFormedFor decides stations client (run.Process who call) =
      process_plain.IsFormed (decides (decider_of stations.processes)) (process_states.opened_with stations.processes.fixed.opening.core.opening) client call
  IsFormedFor decides stations client (run.Port who call) =
      port_plain.IsFormed (decides (decider_of stations.ports)) (port_states.opened_with stations.ports.fixed.opening.core.opening) client call
  IsFormedFor decides stations client asks = Unit {0}
