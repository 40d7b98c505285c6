use denote.Param.Send.{sendable}
use Rattle.std.proofs.Crossing.{crosses}
use Rattle.thread_run.proofs.Crossing.{slot_send, hall_sync}
use Rattle.thread_run.proofs.run.run_together.Goals as goal

pub run_beside-requires-send-T : goal.run_beside-requires-send-T
run_beside-requires-send-T g c κs within = let y = c.type_bounds.sync-D in let a = slot_send in search (sendable, crosses) depth 20

pub run_beside-requires-sync-W : goal.run_beside-requires-sync-W
run_beside-requires-sync-W g c κs within = let y = c.type_bounds.sync-D in let z = c.type_bounds.sync-G in let a = hall_sync in search (sendable, crosses) depth 20
