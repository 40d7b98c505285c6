-- The stations of a run may be shared by threads, and the places of its clients handed to them.
use denote.RattleType.{RattleType}
use denote.Param.Send.{IsSend, IsSync, sendable}
use Rattle.std.proofs.Crossing.{crosses}
use Rattle.access_vectors.specs.declared.decider.Decider as decider
use Rattle.retained_rights.specs.declared.rule.Callback as callback
use Rattle.file_calls.specs.contracts.call.FileCall as file_call
use Rattle.file_calls.specs.contracts.call.FileReply as file_reply
use Rattle.file_calls.specs.contracts.path.FilePath as file_path
use Rattle.process_calls.specs.contracts.call.ProcessCall as process_call
use Rattle.process_calls.specs.contracts.call.ProcessReply as process_reply
use Rattle.port_calls.specs.contracts.call.PortCall as port_call
use Rattle.port_calls.specs.contracts.call.PortReply as port_reply
use Rattle.client_script.specs.contracts.stations.Seats as seats
use Rattle.client_script.specs.contracts.stations.Stations as stations
use Rattle.atomic_blocks.proofs.web.Seat.TheSendSync as web_seat
use Rattle.atomic_blocks.proofs.web.Web.TheSendSync as web
use Rattle.audit_queue.specs.contracts.pens.Pen as pen
use Rattle.audit_queue.specs.contracts.queue.AuditQueue as audit_queue
use Rattle.thread_run.proofs.Policies.{audit_sync}
use Rattle.station_crossing.proofs.Gates.{rows_send, piece_send, seat_send, docket_send, keeper_send}
use Rattle.thread_run.proofs.Cores.{file_core_send, process_core_send, port_core_send}
use Rattle.station_crossing.proofs.Stations.{station_sync, held_send}
use Rattle.one_of_three.specs.contracts.three.OneOfThree as one
use Rattle.thread_run.specs.contracts.clients.Slot as slot
use Rattle.thread_run.specs.contracts.clients.Hall as hall
use Rattle.session_text.specs.contracts.session.RunLine as run_line
use Rattle.session_text.specs.contracts.session.Run as run

file_path_send : IsSend file_path.the_row
file_path_send = let p = piece_send in let r = rows_send in search (sendable, crosses) depth 60

pub file_call_send : IsSend file_call.the_row
file_call_send = let a = file_path_send in let p = piece_send in search (sendable, crosses) depth 60

pub file_reply_send : IsSend file_reply.the_row
file_reply_send = let r = rows_send in let p = piece_send in search (sendable, crosses) depth 60

pub process_call_send : IsSend process_call.the_row
process_call_send = search (sendable, crosses) depth 60

pub process_reply_send : IsSend process_reply.the_row
process_reply_send = search (sendable, crosses) depth 60

pub port_call_send : IsSend port_call.the_row
port_call_send = let p = piece_send in search (sendable, crosses) depth 60

pub port_reply_send : IsSend port_reply.the_row
port_reply_send = let p = piece_send in search (sendable, crosses) depth 60

module _ (κ : _) (D F P Q : RattleType) (d : decider.Ghosts D.Denot) (gf : callback.Ghosts F.Denot) (gp : callback.Ghosts P.Denot) (gq : callback.Ghosts Q.Denot)
    (y : IsSync D) (f : IsSend F) (p : IsSend P) (q : IsSend Q) where
  pub seats_send : IsSend (seats.the_row κ D F P Q d gf gp gq)
  seats_send =
      let s = seat_send in let a = docket_send in let b = keeper_send in let cf = file_core_send in let cp = process_core_send in let cq = port_core_send in
      let kf = file_call_send in let rf = file_reply_send in let kp = process_call_send in let rp = process_reply_send in let kq = port_call_send in let rq = port_reply_send in
      search (sendable, crosses) depth 60

  pub stations_sync : IsSync (stations.the_row κ D F P Q d gf gp gq)
  stations_sync =
      let s = station_sync in let cf = file_core_send in let cp = process_core_send in let cq = port_core_send in
      let kf = file_call_send in let rf = file_reply_send in let kp = process_call_send in let rp = process_reply_send in let kq = port_call_send in let rq = port_reply_send in
      search (sendable, crosses) depth 60

run_send : IsSend run.the_row
run_send = let a = file_call_send in let b = process_call_send in let c = port_call_send in search (sendable, crosses) depth 60 fits 100000

run_line_send : IsSend run_line.the_row
run_line_send = let a = run_send in search (sendable, crosses) depth 60 fits 100000

pen_send : IsSend pen.the_row
pen_send = let a = web_seat.the_send in search (sendable, crosses) depth 60

audit_queue_sync : IsSync audit_queue.the_row
audit_queue_sync = let a = web.the_sync in search (sendable, crosses) depth 60

pub slot_send : (κ : _) (D : RattleType) (d : decider.Ghosts D.Denot) → IsSync D → IsSend (slot.the_row κ D d)
slot_send κ D d y =
    let a = seats_send in let n = pen_send in let l = run_line_send in let s = seat_send in let b = docket_send in let e = keeper_send in
    let cf = file_core_send in let cp = process_core_send in let cq = port_core_send in
    let kf = file_call_send in let rf = file_reply_send in let kp = process_call_send in let rp = process_reply_send in let kq = port_call_send in let rq = port_reply_send in
    search (sendable, crosses) depth 60 fits 100000

pub hall_sync : (κ μ γ : _) (D G : RattleType) (d : decider.Ghosts D.Denot) → IsSync D → IsSync G → IsSync (hall.the_row κ μ γ D G d)
hall_sync κ μ γ D G d y z = let a = stations_sync in let q = audit_queue_sync in let p = audit_sync in search (sendable, crosses) depth 60

pub one_send : (A B C : RattleType) → IsSend A → IsSend B → IsSend C → IsSend (one.the_row A B C)
one_send A B C a b c = search (sendable, crosses) depth 60 fits 100000
