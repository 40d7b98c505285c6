use denote.RattleType.{RattleType}
use denote.Param.Send.{IsSend, IsSync, sendable}
use Rattle.std.proofs.Crossing.{crosses}
use Rattle.station_rounds.specs.Seated.{IsFreeAt}
use Rattle.station_rounds.specs.declared.callers.Caller.{Caller}
use Rattle.access_vectors.specs.declared.decider.Decider as decider
use Rattle.station_crossing.proofs.Gates.{seat_send, docket_send, keeper_send}
use Rattle.station_crossing.proofs.Stations.{station_sync}
use Rattle.station_rounds.specs.contracts.callers.Caller as caller
use Rattle.station_rounds.specs.contracts.callers.Script as script
use Rattle.station_rounds.proofs.Lists.{all_after}
use Rattle.station_rounds.proofs.Crossing.{core_send, call_send, reply_send}
use Rattle.station_rounds.proofs.run.run_both.Goals as goal

caller_send : (κ : _) (D : RattleType) (d : decider.Ghosts D.Denot) → IsSync D → IsSend (caller.the_row κ D d)
caller_send κ D d y =
    let s = seat_send in let b = docket_send in let e = keeper_send in let c = core_send in let k = call_send in let r = reply_send in
    search (sendable, crosses) depth 60 fits 100000

script_sync : (κ μ : _) (D : RattleType) (d : decider.Ghosts D.Denot) → IsSync D → IsSync (script.the_row κ μ D d)
script_sync κ μ D d y = let a = station_sync in let c = core_send in let k = call_send in let r = reply_send in search (sendable, crosses) depth 60 fits 100000

pub run_beside-requires-send-T : goal.run_beside-requires-send-T
run_beside-requires-send-T g c κs within = let y = c.type_bounds.sync-D in let a = caller_send in search (sendable, crosses) depth 20

pub run_beside-requires-sync-W : goal.run_beside-requires-sync-W
run_beside-requires-sync-W g c κs within = let y = c.type_bounds.sync-D in let a = script_sync in search (sendable, crosses) depth 20

pub returns-clause-callers : goal.returns-clause-callers
returns-clause-callers g c =
    all_after (λ (caller : Caller _). IsFreeAt c.args.script.now.board.now caller.seat) c.args.callers.items c.run_beside.result.0.items c.run_beside.ensures.each
