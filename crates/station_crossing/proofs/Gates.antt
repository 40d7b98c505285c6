-- What lies at a station's gate, and what stands round it, may cross threads.
use denote.RattleType.{RattleType}
use denote.Param.Send.{IsSend, IsSync, sendable}
use Rattle.std.proofs.Crossing.{crosses}
use Rattle.atomic_table.proofs.shared.Seat.TheSendSync as table_seat
use Rattle.atomic_table.proofs.shared.Shared.TheSendSync as table_sync
use Rattle.gate_rule.specs.declared.journal.Journal as journal
use Rattle.access_vectors.specs.declared.decider.Decider as decider
use Rattle.manager_history.specs.declared.core_trait.Core as core
use Rattle.epoch_gate.specs.contracts.seat.Seat as seat
use Rattle.epoch_gate.specs.contracts.gate.Gate as gate
use Rattle.epoch_gate.specs.contracts.admin.Admin as admin
use Rattle.managed_run.specs.contracts.docket.CoreDocket as docket
use Rattle.manager_history.specs.contracts.keeper.Keeper as keeper
use Rattle.manager_history.specs.contracts.entry.Entry as entry
use Rattle.access_vectors.specs.contracts.questions.Questions as questions
use Rattle.flask_sid.specs.contracts.piece.Piece as piece
use Rattle.flask_sid.specs.contracts.rows.Rows as rows
use Rattle.access_vectors.specs.contracts.asked.Asked as asked
use Rattle.atomic_table.proofs.send_lease.SendLease.TheSendSync as lease
use Rattle.std.proofs.Crossing.{send, sync, frees}
use Rattle.station_crossing.proofs.ShortLists.{small_vec_send}

pub asked_send : IsSend asked.the_row
asked_send = search (sendable, crosses) depth 20

pub rows_send : (T : RattleType) → IsSend T → IsSend (rows.the_row T)
rows_send T t = search (sendable, crosses) depth 20

pub questions_send : IsSend questions.the_row
questions_send = let a = asked_send in let v = small_vec_send in search (sendable, crosses) depth 20

pub piece_send : IsSend piece.the_row
piece_send = let v = small_vec_send in search (sendable, crosses) depth 20

module _ (V D E O : RattleType) (j : journal.Ghosts V.Denot D.Denot E.Denot O.Denot) (d : decider.Ghosts D.Denot) where
  pub seat_send : IsSend V → IsSend (seat.the_row V D E O j d)
  seat_send v = let a = table_seat.the_send in search (sendable, crosses) depth 20

  pub admin_send : IsSend V → IsSend (admin.the_row V D E O j d)
  admin_send v = let a = table_seat.the_send in search (sendable, crosses) depth 20

module _ (κ : _) (V D E O : RattleType) (j : journal.Ghosts V.Denot D.Denot E.Denot O.Denot) (d : decider.Ghosts D.Denot) where
  pub gate_sync : IsSend V → IsSync D → IsSync (gate.the_row κ V D E O j d)
  gate_sync v y = let a = table_sync.the_sync in let b = lease.the_sync in let h = sync in let e = send in let f = frees in search (sendable, crosses) depth 20

module _ (K R : RattleType) where
  pub entry_send : IsSend K → IsSend R → IsSend (entry.the_row K R)
  entry_send k r = let a = questions_send in search (sendable, crosses) depth 20

module _ (κ : _) (C D K R : RattleType) (g : core.Ghosts C.Denot K.Denot R.Denot) (d : decider.Ghosts D.Denot) where
  pub keeper_send : IsSend C → IsSync D → IsSend K → IsSend R → IsSend (keeper.the_row κ C D K R g d)
  keeper_send c y k r = let e = entry_send K R k r in search (sendable, crosses) depth 20

module _ (κ : _) (C D K R : RattleType) (g : core.Ghosts C.Denot K.Denot R.Denot) (d : decider.Ghosts D.Denot) where
  pub docket_send : IsSend C → IsSync D → IsSend K → IsSend R → IsSend (docket.the_row κ C D K R g d)
  docket_send c y k r = let e = keeper_send in search (sendable, crosses) depth 20
