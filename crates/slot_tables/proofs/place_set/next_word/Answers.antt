use Rattle.std.proofs.Common.{◌*◌, get_or, arith}
use Rattle.slot_tables.proofs.SetLemmas.{next-word, next-none, next-end, read_zero}
use Rattle.slot_tables.proofs.place_set.next_word.Goals as goal

pub returns-then-word-ne0 : goal.returns-then-word-ne0
returns-then-word-ne0 c =
    let word = get_or c.args.words.now c.loop-block.block 0 in
    next-word c.args.words.now (64 * c.args.from) c.loop-block.block word (omega arith) (read_zero c.args.words.now c.loop-block.block (omega arith)) (omega arith)
    (c.type_inv.words c.loop-block.block).fits (omega arith) c.loop-block.invariant

pub loop-block-preserved : goal.loop-block-preserved
loop-block-preserved c =
    next-none c.args.words.now (64 * c.args.from) c.loop-block.block (get_or c.args.words.now c.loop-block.block 0) (omega arith) (read_zero c.args.words.now c.loop-block.block (omega arith)) (omega arith) c.loop-block.invariant

pub returns : goal.returns
returns c = next-end c.args.words.now (64 * c.args.from) c.loop-block.block (omega arith) c.loop-block.invariant
