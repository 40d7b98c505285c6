use Rattle.std.proofs.Common.{◌<◌, ◌∙◌, ap, subst, set, Some, arith}
use Rattle.port_calls.specs.States.{message_limit}
use Rattle.slot_tables.specs.Slots.{map_of}
use Rattle.port_store.specs.Queues.{waiting, with_newest}
use Rattle.port_store.proofs.TableLemmas.{found_at, unbound_past, unchanged, changed_there, changed_nowhere}
use Rattle.port_store.proofs.table.push.Goals as goal

pub returns-then-at-len : goal.returns-then-at-len
returns-then-at-len c =
    let slots = c.args.table.now.items in
    unchanged (map_of slots) c.args.port (λ bound. with_newest bound c.args.message) (unbound_past slots c.args.port (omega arith))

pub push-requires : goal.push-requires
push-requires c =
    let found = found_at c.args.table.now.items c.args.port c.index_mut.result.now (omega arith) c.index_mut.ensures.value ∙ c.in-Some.is in
    subst (λ bound. waiting bound < message_limit) found c.requires

pub returns-in-Some : goal.returns-in-Some
returns-in-Some c =
    let slots = c.args.table.now.items in
    let found = found_at slots c.args.port c.index_mut.result.now (omega arith) c.index_mut.ensures.value ∙ c.in-Some.is in
    ap (λ bound. map_of (set slots c.args.port (Some bound))) c.push.ensures
    ∙ changed_there slots c.args.port c.in-Some.queue (λ bound. with_newest bound c.args.message) (omega arith) found

pub returns-in_default : goal.returns-in_default
returns-in_default c =
    changed_nowhere c.args.table.now.items c.args.port c.index_mut.result.now (λ bound. with_newest bound c.args.message) (omega arith) c.index_mut.ensures.value c.in_default.is
