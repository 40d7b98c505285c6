use denote.Param.Send.{sendable}
use Rattle.std.proofs.Crossing.{crosses}
use Rattle.station_crossing.proofs.Stations.{held_send}
use Rattle.station_rounds.proofs.Crossing.{core_send, call_send, reply_send}
use Rattle.station_rounds.proofs.run.work_beside.Goals as goal

pub run_both-done-requires-send-M : goal.run_both-done-requires-send-M
run_both-done-requires-send-M g c κs within =
    let y = c.type_bounds.sync-D in let h = held_send in let o = core_send in let k = call_send in let r = reply_send in
    search (sendable, crosses) depth 60 fits 100000
