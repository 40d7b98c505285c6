-- Clients get their seats.
use Rattle.std.specs.Prelude.{◌≡◌, ℕ, ◌<◌, ◌≤◌, List, length, slice_get, Some}
use Rattle.epoch_gate.specs.Seats.{SeatView, Site, IsOfGate}
use Rattle.epoch_gate.specs.Known.{seen_by, seats_allowed, seats_made, seats_retired, turns_had, current_number, current_version}
use Rattle.epoch_gate.specs.Calls.{IsNew, HasMade}
use Rattle.retained_rights.specs.declared.callbacks.AllBits.{AllBits}
use Rattle.retained_rights.specs.declared.callbacks.EachBits.{EachBits}
use Rattle.client_script.specs.declared.stations.Stations.{Stations}
use Rattle.client_script.specs.declared.stations.Seats.{Seats}
use Rattle.client_script.specs.Clients.{AreSeated, AreOf, HaveNone, standings_of}
use Rattle.station_start.specs.declared.started.Admins.{Admins}

module _ {E D O : Type 0} where
  -- a station may have one seat more, made by its own administrator
  pub record MaySeatAt (site : Site D O) (admin : SeatView E D O) : Type 0 where
    pub gate : IsOfGate site admin
    pub room : seats_made admin < seats_allowed site

  -- a station has one seat more, which is new
  pub record HasSeatedAt (site : Site D O) (old seat new : SeatView E D O) : Type 0 where
    pub seat_gate : IsOfGate site seat
    pub seat_new : IsNew old seat
    pub gate : IsOfGate site new
    pub made : HasMade old new

  -- a station may have so many seats, and has none yet
  pub record MaySeatAllAt (count : ℕ) (site : Site D O) (admin : SeatView E D O) : Type 0 where
    pub gate : IsOfGate site admin
    pub none : seats_made admin ≡ 0
    pub room : count ≤ seats_allowed site

  -- so many seats are made at a station, and else its administrator is as before
  pub record HasSeatedAllAt (count : ℕ) (site : Site D O) (old new : SeatView E D O) : Type 0 where
    pub gate : IsOfGate site new
    pub made : seats_made new ≡ count
    pub retired : seats_retired new ≡ seats_retired old
    pub turns : turns_had new ≡ turns_had old
    pub seen : seen_by new ≡ seen_by old
    pub number : current_number new ≡ current_number old
    pub version : current_version new ≡ current_version old
    pub ticket : new.view.ticket ≡ old.view.ticket

module _ {D : Type 0} where
  -- the next client may have its seats: there is room for one at each station, and each made as many
  pub record MaySeat (stations : Stations D EachBits AllBits AllBits) (admins : Admins D) : Type 0 where
    pub files : MaySeatAt stations.files admins.files
    pub processes : MaySeatAt stations.processes admins.processes
    pub ports : MaySeatAt stations.ports admins.ports
    pub same_processes : seats_made admins.processes ≡ seats_made admins.files
    pub same_ports : seats_made admins.ports ≡ seats_made admins.files

  -- seats are those of a client of this number that did nothing yet, and may enter each station as often as its quota says
  pub record AreFresh (stations : Stations D EachBits AllBits AllBits) (client : ℕ) (seats : Seats D EachBits AllBits AllBits) : Type 0 where
    pub seated : AreSeated stations seats
    pub none : HaveNone (standings_of seats)
    pub client_is : AreOf client (standings_of seats)
    pub room_files : (standings_of seats).files.room ≡ stations.files.fixed.quota
    pub room_processes : (standings_of seats).processes.room ≡ stations.processes.fixed.quota
    pub room_ports : (standings_of seats).ports.room ≡ stations.ports.fixed.quota

  -- the next client has its seats
  pub record HasSeated (stations : Stations D EachBits AllBits AllBits) (old : Admins D) (seats : Seats D EachBits AllBits AllBits) (new : Admins D) : Type 0 where
    pub fresh : AreFresh stations (seats_made old.files) seats
    pub files : IsOfGate stations.files new.files × HasMade old.files new.files
    pub processes : IsOfGate stations.processes new.processes × HasMade old.processes new.processes
    pub ports : IsOfGate stations.ports new.ports × HasMade old.ports new.ports

  -- so many clients may have their seats
  pub record MaySeatAll (count : ℕ) (stations : Stations D EachBits AllBits AllBits) (admins : Admins D) : Type 0 where
    pub files : MaySeatAllAt count stations.files admins.files
    pub processes : MaySeatAllAt count stations.processes admins.processes
    pub ports : MaySeatAllAt count stations.ports admins.ports

  -- so many clients have their seats, each in the place of its number
  pub record HasSeatedAll (count : ℕ) (stations : Stations D EachBits AllBits AllBits) (old : Admins D) (all : List (Seats D EachBits AllBits AllBits)) (new : Admins D) : Type 0 where
    pub length_is : length all ≡ count
    pub each : (client : ℕ) (seats : Seats D EachBits AllBits AllBits) → slice_get all client ≡ Some seats → AreFresh stations client seats
    pub files : HasSeatedAllAt count stations.files old.files new.files
    pub processes : HasSeatedAllAt count stations.processes old.processes new.processes
    pub ports : HasSeatedAllAt count stations.ports old.ports new.ports

  -- clients are on their way to their seats: so many of a number have them, of stations that had none, and the list has room for all
  pub record AreSeating (count done : ℕ) (stations : Stations D EachBits AllBits AllBits) (old : Admins D) (all : List (Seats D EachBits AllBits AllBits)) (now : Admins D) : Type 0 where
    pub few : done ≤ count
    pub seated : HasSeatedAll done stations old all now
    pub room : MaySeatAll count stations old
