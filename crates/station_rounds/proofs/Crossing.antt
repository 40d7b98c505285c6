-- The core of the example board, its calls and its replies may cross threads.
use denote.RattleType.{RattleType}
use denote.Param.Send.{IsSend, sendable}
use Rattle.std.proofs.Crossing.{crosses}
use Rattle.retained_rights.specs.declared.rule.Callback as callback
use Rattle.example_board.specs.contracts.opening.BoardOpening as opening
use Rattle.example_board.specs.contracts.board.Board as board
use Rattle.example_board.specs.contracts.board_core.BoardCore as core
use Rattle.example_board.specs.contracts.call.BoardCall as call
use Rattle.example_board.specs.contracts.call.BoardReply as reply
use Rattle.station_crossing.proofs.Gates.{rows_send}
use Rattle.station_crossing.proofs.Rights.{grants_send}

opening_send : IsSend opening.the_row
opening_send = let r = rows_send in search (sendable, crosses) depth 60

module _ (F : RattleType) (g : callback.Ghosts F.Denot) (f : IsSend F) where
  board_send : IsSend (board.the_row F g)
  board_send = let o = opening_send in let h = grants_send F g f in search (sendable, crosses) depth 60

  pub core_send : IsSend (core.the_row F g)
  core_send = let b = board_send in search (sendable, crosses) depth 60

pub call_send : IsSend call.the_row
call_send = search (sendable, crosses) depth 60

pub reply_send : IsSend reply.the_row
reply_send = search (sendable, crosses) depth 60
