-- The stations of a session, as they are opened.
use Rattle.std.specs.Prelude.{◌≡◌, ℕ, []}
use Rattle.gate_rule.specs.declared.view.Fixed.{Fixed}
use Rattle.epoch_gate.specs.Seats.{SeatView, Site, IsOfGate}
use Rattle.epoch_gate.specs.Known.{seen_by, seats_made, seats_retired, turns_had, current_number, current_version, IsIdle}
use Rattle.epoch_gate.specs.Calls.{IsFirst}
use Rattle.managed_run.specs.declared.docket.Opened.{Opened}
use Rattle.session_managers.specs.declared.opening.Openings.{Openings}
use Rattle.station_start.specs.declared.started.Limits.{Limits}
use Rattle.station_start.specs.declared.started.Started.{Started}

-- an administrator did nothing yet: it has neither the turn nor a ticket for one, made and retired no seat, had no turn, and has seen
-- no entry; its number is 0, with version 0
pub record DidNothing {E D O : Type 0} (admin : SeatView E D O) : Type 0 where
  pub idle : IsIdle admin
  pub made : seats_made admin ≡ 0
  pub retired : seats_retired admin ≡ []
  pub turns : turns_had admin ≡ []
  pub seen : seen_by admin ≡ []
  pub number : current_number admin ≡ 0
  pub version : current_version admin ≡ 0

-- a station was opened over a core, with this decider, number of its manager and limits; its administrator is its own, and did nothing
-- yet
pub record IsOpened {C D E : Type 0} (decider : D) (core : C) (manager : ℕ) (limits : Limits) (site : Site D (Opened C)) (admin : SeatView E D (Opened C)) : Type 0 where
  pub fixed : site.fixed ≡ record { decider = decider; opening = record { core = core; manager = manager }; seats = limits.seats; quota = limits.quota; most = limits.most }
  pub gate : IsOfGate site admin
  pub first : IsFirst site admin
  pub nothing : DidNothing admin

-- a station is one with this decider, number of its manager and limits; its administrator is its own, and did nothing yet
pub record IsStarted {C D E : Type 0} (decider : D) (manager : ℕ) (limits : Limits) (site : Site D (Opened C)) (admin : SeatView E D (Opened C)) : Type 0 where
  pub decider_is : site.fixed.decider ≡ decider
  pub manager_is : site.fixed.opening.manager ≡ manager
  pub seats : site.fixed.seats ≡ limits.seats
  pub quota : site.fixed.quota ≡ limits.quota
  pub most : site.fixed.most ≡ limits.most
  pub gate : IsOfGate site admin
  pub first : IsFirst site admin
  pub nothing : DidNothing admin

-- the three stations of a session are opened
pub record HasStarted {D : Type 0} (decider : D) (openings : Openings) (limits : Limits) (started : Started D) : Type 0 where
  pub files : IsStarted decider 0 limits started.stations.files started.admins.files
  pub processes : IsStarted decider 1 limits started.stations.processes started.admins.processes
  pub ports : IsStarted decider 2 limits started.stations.ports started.admins.ports
  pub opened_files : started.stations.files.fixed.opening.core.opening ≡ openings.files
  pub opened_processes : started.stations.processes.fixed.opening.core.opening ≡ openings.processes
  pub opened_ports : started.stations.ports.fixed.opening.core.opening ≡ openings.ports
