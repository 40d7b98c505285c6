-- The seats of a client as they are retired.
use Rattle.epoch_gate.specs.Seats.{SeatView, Site, IsOfGate}
use Rattle.epoch_gate.specs.Known.{HasNoPass, IsIdle}
use Rattle.client_script.specs.declared.stations.Stations.{Stations}
use Rattle.client_script.specs.declared.stations.Seats.{Seats}

-- a seat may be retired: it is the station's, holds no pass, and has not the turn
pub record IsLeft {E D O : Type 0} (site : Site D O) (seat : SeatView E D O) : Type 0 where
  pub gate : IsOfGate site seat
  pub out : HasNoPass seat
  pub idle : IsIdle seat

-- a client's seats may be retired
pub record MayLeave {D F P Q : Type 0} (stations : Stations D F P Q) (seats : Seats D F P Q) : Type 0 where
  pub files : IsLeft stations.files seats.files
  pub processes : IsLeft stations.processes seats.processes
  pub ports : IsLeft stations.ports seats.ports
