use Rattle.std.proofs.Common.{arith}
use Rattle.slot_tables.proofs.SlotLemmas.{map_of-clear, map_of-past}
use Rattle.port_store.proofs.table.take.Goals as goal

pub returns-then-port-len : goal.returns-then-port-len
returns-then-port-len c = map_of-clear c.args.table.now.items c.args.port (omega arith)

pub returns-else-port-len : goal.returns-else-port-len
returns-else-port-len c = map_of-past c.args.table.now.items c.args.port (omega arith)
