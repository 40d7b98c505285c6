use Rattle.std.proofs.Common.{◌∙◌, ap, Some, arith}
use Rattle.std.proofs.Common.{set}
use Rattle.slot_tables.specs.Slots.{map_of}
use Rattle.port_store.specs.Queues.{without_oldest}
use Rattle.port_store.proofs.TableLemmas.{found_at, unbound_past, unchanged, changed_there, changed_nowhere}
use Rattle.port_store.proofs.table.pop.Goals as goal

pub returns-then-at-len : goal.returns-then-at-len
returns-then-at-len c =
    let slots = c.args.table.now.items in
    unchanged (map_of slots) c.args.port without_oldest (unbound_past slots c.args.port (omega arith))

pub returns-in-Some : goal.returns-in-Some
returns-in-Some c =
    let slots = c.args.table.now.items in
    let found = found_at slots c.args.port c.index_mut.result.now (omega arith) c.index_mut.ensures.value ∙ c.in-Some.is in
    ap (λ bound. map_of (set slots c.args.port (Some bound))) c.pop.ensures
    ∙ changed_there slots c.args.port c.in-Some.queue without_oldest (omega arith) found

pub returns-in_default : goal.returns-in_default
returns-in_default c =
    changed_nowhere c.args.table.now.items c.args.port c.index_mut.result.now without_oldest (omega arith) c.index_mut.ensures.value c.in_default.is
