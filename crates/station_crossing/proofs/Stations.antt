-- A station may be shared by threads, and a station with its administrator handed to one.
use denote.RattleType.{RattleType}
use denote.Param.Send.{IsSend, IsSync, sendable}
use Rattle.std.proofs.Crossing.{crosses}
use Rattle.access_vectors.specs.declared.decider.Decider as decider
use Rattle.manager_history.specs.declared.core_trait.Core as core
use Rattle.managed_run.specs.contracts.station.Station as station
use Rattle.managed_run.specs.contracts.held.Held as held
use Rattle.station_crossing.proofs.Gates.{admin_send, gate_sync, docket_send, keeper_send}

module _ (κ : _) (C D K R : RattleType) (g : core.Ghosts C.Denot K.Denot R.Denot) (d : decider.Ghosts D.Denot) (c : IsSend C) (y : IsSync D) (k : IsSend K) (r : IsSend R) where
  pub station_sync : IsSync (station.the_row κ C D K R g d)
  station_sync = let a = gate_sync in let b = docket_send in let e = keeper_send in search (sendable, crosses) depth 60

  pub held_send : (ℓ : _) → IsSend (held.the_row ℓ κ C D K R g d)
  held_send ℓ = let s = station_sync in let a = admin_send in let b = docket_send in let e = keeper_send in search (sendable, crosses) depth 60
