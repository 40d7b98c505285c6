-- The cores of the three managers may cross threads.
use denote.RattleType.{RattleType}
use denote.Param.Send.{IsSend, IsSync, sendable}
use Rattle.std.proofs.Crossing.{crosses}
use Rattle.std.proofs.MapsCrossing as maps
use Rattle.circular_buffer.proofs.cells.Cells.TheSendSync as cells
use Rattle.circular_buffer.proofs.cells.Deed.TheSendSync as deed
use Rattle.circular_buffer.proofs.cells.Base.TheSendSync as base
use Rattle.retained_rights.specs.declared.rule.Callback as callback
use Rattle.flask_sid.specs.contracts.rows.Rows as rows
use Rattle.flask_sid.specs.contracts.piece.Piece as piece
use Rattle.file_tree.specs.contracts.step.Step as step
use Rattle.file_tree.specs.contracts.node.Node as node
use Rattle.file_tree.specs.contracts.shelf.Shelf as shelf
use Rattle.file_tree.specs.contracts.entries.EntryIndex as entries
use Rattle.file_tree.specs.contracts.tree.Tree as tree
use Rattle.file_calls.specs.contracts.opening.FileOpening as file_opening
use Rattle.file_store.specs.contracts.files.Files as files
use Rattle.file_manager.specs.contracts.file_core.FileCore as file_core
use Rattle.process_calls.specs.contracts.opening.ProcessOpening as process_opening
use Rattle.process_store.specs.contracts.processes.Processes as processes
use Rattle.process_manager.specs.contracts.process_core.ProcessCore as process_core
use Rattle.port_calls.specs.contracts.opening.PortOpening as port_opening
use Rattle.port_store.specs.contracts.queue.Queue as queue
use Rattle.port_store.specs.contracts.ports.Ports as ports
use Rattle.port_manager.specs.contracts.port_core.PortCore as port_core
use Rattle.station_crossing.proofs.Gates.{rows_send, piece_send}
use Rattle.station_crossing.proofs.Rights.{table_send, grants_send}

step_send : IsSend step.the_row
step_send = let p = piece_send in search (sendable, crosses) depth 60

node_send : IsSend node.the_row
node_send = let p = piece_send in let r = rows_send step.the_row step_send in search (sendable, crosses) depth 60

entries_send : IsSend entries.the_row
entries_send = search (sendable, crosses, maps.crosses) depth 60

tree_send : IsSend tree.the_row
tree_send = let n = node_send in let e = entries_send in search (sendable, crosses) depth 60

file_opening_send : IsSend file_opening.the_row
file_opening_send = let p = piece_send in let r = rows_send in search (sendable, crosses) depth 60

process_opening_send : IsSend process_opening.the_row
process_opening_send = let r = rows_send in search (sendable, crosses) depth 60

port_opening_send : IsSend port_opening.the_row
port_opening_send = let r = rows_send in search (sendable, crosses) depth 60

module _ (F : RattleType) (g : callback.Ghosts F.Denot) (f : IsSend F) where
  files_send : IsSend (files.the_row F g)
  files_send = let o = file_opening_send in let t = tree_send in let h = grants_send F g f in search (sendable, crosses) depth 60 fits 100000

  pub file_core_send : IsSend (file_core.the_row F g)
  file_core_send = let a = files_send in search (sendable, crosses) depth 60

  processes_send : IsSend (processes.the_row F g)
  processes_send = let o = process_opening_send in let t = table_send in let h = grants_send F g f in search (sendable, crosses) depth 60

  pub process_core_send : IsSend (process_core.the_row F g)
  process_core_send = let a = processes_send in search (sendable, crosses) depth 60

queue_send : IsSend queue.the_row
queue_send = let p = piece_send in let b = base.the_send in let c = cells.the_send in let d = deed.the_send in search (sendable, crosses) depth 60

module _ (F : RattleType) (g : callback.Ghosts F.Denot) (f : IsSend F) where
  ports_send : IsSend (ports.the_row F g)
  ports_send = let o = port_opening_send in let q = queue_send in let h = grants_send F g f in search (sendable, crosses) depth 60

  pub port_core_send : IsSend (port_core.the_row F g)
  port_core_send = let a = ports_send in search (sendable, crosses) depth 60
