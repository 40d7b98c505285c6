-- The three managers of a run, and their administrators.
use Rattle.std.specs.Prelude.{◌≡◌, ℕ, ◌<◌, ◌≤◌, false, true, List, [], ◌∷◌, All, map}
use Rattle.access_vectors.specs.Decisions.{Decisions}
use Rattle.retained_rights.specs.declared.callbacks.EachBits.{EachBits}
use Rattle.retained_rights.specs.declared.callbacks.AllBits.{AllBits}
use Rattle.manager_history.specs.declared.entry.Entry.{Entry}
use Rattle.managed.specs.Seen.{Seen}
use Rattle.epoch_gate.specs.Seats.{SeatView, Site, IsOfGate}
use Rattle.epoch_gate.specs.Known.{decider_of, greatest_number, seen_by, seats_made, seats_retired, turns_had, IsIdle}
use Rattle.managed_run.specs.declared.docket.Opened.{Opened}
use Rattle.managed_run.specs.Administering.{Holding, IsHolding, IsSameHolding, seen_of, turn_of}
use Rattle.file_manager.specs.declared.file_core.FileCore.{FileCore}
use Rattle.process_manager.specs.declared.process_core.ProcessCore.{ProcessCore}
use Rattle.port_manager.specs.declared.port_core.PortCore.{PortCore}
use Rattle.file_calls.specs.declared.call.FileCall.{FileCall}
use Rattle.file_calls.specs.declared.call.FileReply.{FileReply}
use Rattle.process_calls.specs.declared.call.ProcessCall.{ProcessCall}
use Rattle.process_calls.specs.declared.call.ProcessReply.{ProcessReply}
use Rattle.port_calls.specs.declared.call.PortCall.{PortCall}
use Rattle.port_calls.specs.declared.call.PortReply.{PortReply}
use Rattle.one_of_three.specs.declared.three.OneOfThree.{OneOfThree}
use Rattle.one_of_three.specs.declared.three.OneOfThree.TheVariants as one
use Rattle.one_of_three.specs.Three.{seen_by as seen_of_three, AreSame}
use Rattle.security_server.specs.Numbering.{opened}
use Rattle.change_protocol.specs.Changes.{Led}
use Rattle.session_text.specs.declared.session.RunLine.{RunLine}
use Rattle.admin_walk.specs.Walks.{own_lines}
use Rattle.admin_walk.specs.Explained.{Explains}
use Rattle.admin_walk.specs.Moves.{versions_of}
use Rattle.run_histories.specs.Histories.{IsWalked}
use Rattle.client_script.specs.declared.stations.Stations.{Stations}
use Rattle.station_start.specs.declared.started.Admins.{Admins}
use Rattle.thread_run.specs.declared.prepared.Staff.{Staff}

module _ {C D : Type 0} where
  -- a station of a run: it has this number of its manager and this decider, and its policy numbers end here
  pub record IsStation (decider : D) (most manager : ℕ) (site : Site D (Opened C)) : Type 0 where
    pub manager_is : site.fixed.opening.manager ≡ manager
    pub decider_is : decider_of site ≡ decider
    pub most_is : greatest_number site ≡ most

module _ {E D O : Type 0} where
  -- the administrator of a station before a run: it is the station's and has not the turn; it made so many seats and retired none; and
  -- it had no turn, and has seen no entry
  pub record IsBefore (seats : ℕ) (site : Site D O) (admin : SeatView E D O) : Type 0 where
    pub gate : IsOfGate site admin
    pub idle : IsIdle admin
    pub made : seats_made admin ≡ seats
    pub retired : seats_retired admin ≡ []
    pub turns : turns_had admin ≡ []
    pub seen : seen_by admin ≡ []

  -- the administrator of a station after its worker has ended: it is the station's and has not the turn, and the seats that it made and
  -- retired are as before
  pub record IsAfter (site : Site D O) (was now : SeatView E D O) : Type 0 where
    pub gate : IsOfGate site now
    pub idle : IsIdle now
    pub made : seats_made now ≡ seats_made was
    pub retired : seats_retired now ≡ seats_retired was

-- a manager of the three, as contracts see it
abbrev pub OneHolding : Type 0 → Type 0
OneHolding D = OneOfThree (Holding (FileCore EachBits) D FileCall FileReply) (Holding (ProcessCore AllBits) D ProcessCall ProcessReply) (Holding (PortCore AllBits) D PortCall PortReply)

module _ {D : Type 0} where
  -- the three managers in the order of their numbers
  abbrev pub managers_of : Stations D EachBits AllBits AllBits → Admins D → List (OneHolding D)
  managers_of stations admins =
      one.Files (record { site = stations.files; admin = admins.files })
      ∷ one.Processes (record { site = stations.processes; admin = admins.processes })
      ∷ one.Ports (record { site = stations.ports; admin = admins.ports }) ∷ []

  -- what is seen of one, and what makes two of them the same
  abbrev pub seen_one : (D → Decisions) → OneHolding D → Seen
  seen_one decides manager = seen_of_three (seen_of decides) (seen_of decides) (seen_of decides) manager

  abbrev pub IsSameOne : OneHolding D → OneHolding D → Type 0
  IsSameOne old new = AreSame IsSameHolding IsSameHolding IsSameHolding old new

  -- the coordinator of the three before the first change
  abbrev pub led_first : D → ℕ → Stations D EachBits AllBits AllBits → Admins D → Led D (OneHolding D)
  led_first decider most stations admins = record { server = opened decider 3 most; managers = managers_of stations admins; reached = 0 }

  -- these are the three managers of stations, with their administrators
  pub record AreThree (managers : List (OneHolding D)) : Type 0 where
    pub stations : Stations D EachBits AllBits AllBits
    pub admins : Admins D
    pub are : managers ≡ managers_of stations admins

  -- each administrator is its station's and has not the turn; where it made no seat, each of its turns found no stale slot and no older
  -- pass
  pub record AreHeld (stations : Stations D EachBits AllBits AllBits) (admins : Admins D) : Type 0 where
    pub files : IsHolding (record { site = stations.files; admin = admins.files })
    pub processes : IsHolding (record { site = stations.processes; admin = admins.processes })
    pub ports : IsHolding (record { site = stations.ports; admin = admins.ports })

  -- the stations of a run, all of one decider
  pub record AreStations (decider : D) (most : ℕ) (stations : Stations D EachBits AllBits AllBits) : Type 0 where
    pub files : IsStation decider most 0 stations.files
    pub processes : IsStation decider most 1 stations.processes
    pub ports : IsStation decider most 2 stations.ports

  -- the administrators before a run, and after their worker has ended
  pub record AreBefore (seats : ℕ) (stations : Stations D EachBits AllBits AllBits) (admins : Admins D) : Type 0 where
    pub files : IsBefore seats stations.files admins.files
    pub processes : IsBefore seats stations.processes admins.processes
    pub ports : IsBefore seats stations.ports admins.ports

  pub record AreAfter (stations : Stations D EachBits AllBits AllBits) (was now : Admins D) : Type 0 where
    pub files : IsAfter stations.files was.files now.files
    pub processes : IsAfter stations.processes was.processes now.processes
    pub ports : IsAfter stations.ports was.ports now.ports

  -- the administrator's worker may begin at these stations, of which each made so many seats: there is a policy number for each of its
  -- lines
  pub record MayBegin (seats : ℕ) (stations : Stations D EachBits AllBits AllBits) (staff : Staff D) : Type 0 where
    pub stations_are : AreStations staff.decider.now staff.most stations
    pub admins : AreBefore seats stations staff.admins
    pub room : own_lines staff.script.items < staff.most
    pub last : staff.most ≤ 1048575

  -- the administrator's script was run whole: the turns of all three have the same notices, and the lines explain their versions; and
  -- where no seat was made, with each acknowledgement of a pending change settling it
  pub record AreWalked (versions : ℕ) (lines : List RunLine) (admins : Admins D) : Type 0 where
    pub chosen : List (ℕ × ℕ)
    pub files : IsWalked lines chosen (map turn_of (turns_had admins.files))
    pub processes : IsWalked lines chosen (map turn_of (turns_had admins.processes))
    pub ports : IsWalked lines chosen (map turn_of (turns_had admins.ports))
    pub explains : Explains false versions false lines (versions_of chosen)
    pub at_once : seats_made admins.files ≡ 0 → seats_made admins.processes ≡ 0 → seats_made admins.ports ≡ 0 → Explains true versions false lines (versions_of chosen)
