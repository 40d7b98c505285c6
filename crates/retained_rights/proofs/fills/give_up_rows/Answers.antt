use Rattle.std.proofs.Common.{◌<◌, arith}
use Rattle.slot_tables.proofs.RowLemmas.{on_small}
use Rattle.retained_rights.proofs.fills.give_up_rows.Goals as goal

pub give_up_row-requires-clause-small : goal.give_up_row-requires-clause-small
give_up_row-requires-clause-small c = on_small c.args.by_object.now c.args.object c.in-Some.place c.in-Some.ensures.passes

pub overflow_add-from : goal.overflow_add-from
overflow_add-from c =
    let small : c.in-Some.place < 65536 = on_small c.args.by_object.now c.args.object c.in-Some.place c.in-Some.ensures.passes in
    omega arith

pub loop-place-smaller : goal.loop-place-smaller
loop-place-smaller c =
    let small : c.in-Some.place < 65536 = on_small c.args.by_object.now c.args.object c.in-Some.place c.in-Some.ensures.passes in
    omega (arith, c.in-Some.ensures.above)
