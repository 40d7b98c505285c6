use Rattle.std.proofs.Common.{◌/◌, ◌*◌, ◌+◌, get_or, arith}
use Rattle.slot_tables.proofs.SetLemmas.{next-rest, next-past, next-later, holds-past, read_zero}
use Rattle.slot_tables.proofs.place_set.next_place.Goals as goal

pub returns-then-first-words : goal.returns-then-first-words
returns-then-first-words c = λ q above. holds-past c.args.words.now q (omega arith)

pub returns-then-rest-ne0 : goal.returns-then-rest-ne0
returns-then-rest-ne0 c =
    let words = c.args.words.now in
    let first = c.args.from / 64 in
    (next-rest words c.args.from (get_or words first 0) (omega arith) (read_zero words first (omega arith)) (omega arith) (omega arith) (c.type_inv.words first).fits).1

pub returns : goal.returns
returns c =
    let words = c.args.words.now in
    let first = c.args.from / 64 in
    next-later words c.args.from (64 * (first + 1)) c.next_word.result (omega arith)
    (next-past words c.args.from (get_or words first 0) (omega arith) (read_zero words first (omega arith)) (omega arith)) c.next_word.ensures
