use Rattle.std.proofs.Common.{◌<◌, length, bit_or, arith}
use Rattle.std.proofs.lemmas.List.{length-set}
use Rattle.std.proofs.lemmas.Nat.{or_lt}
use lib.Count.{ones-le}
use Rattle.slot_tables.proofs.BitLemmas.{length_places-le}
use Rattle.slot_tables.proofs.SetLemmas.{held-added_word, count-added_word}
use Rattle.slot_tables.proofs.place_set.PlaceSet.add_word.Goals as goal

pub overflow_add-self : goal.overflow_add-self
overflow_add-self c =
    omega (
      arith,
      length_places-le c.self.inside.words.items,
      c.self.invariant.0,
      c.self.invariant.1,
      ones-le 64 (bit_or c.index-old.result.now c.args.word) (or_lt 64 c.index-old.result.now c.args.word c.type_inv.old.fits c.ranges.word.fits),
    )

pub overflow_sub-self : goal.overflow_sub-self
overflow_sub-self c =
    let words = c.self.inside.words.items in
    let within : c.args.block < length words = rw (← c.self.view_is) at c.requires in
    omega (arith, c.self.invariant.0, count-added_word words c.args.block c.index-old.result.now c.args.word within c.index-old.ensures c.type_inv.old.fits c.ranges.word.fits)

pub invariant_of-self : goal.invariant_of-self
invariant_of-self c =
    let words = c.self.inside.words.items in
    let within : c.args.block < length words = rw (← c.self.view_is) at c.requires in (
      omega (arith, c.self.invariant.0, count-added_word words c.args.block c.index-old.result.now c.args.word within c.index-old.ensures (omega arith) c.ranges.word.fits),
      rw length-set c.self.invariant.1,
    )

pub returns-clause-held : goal.returns-clause-held
returns-clause-held c =
    let words = c.self.inside.words.items in
    let within : c.args.block < length words = rw (← c.self.view_is) at c.requires in
    rw (← c.self.view_is) (held-added_word words c.args.block c.index-old.result.now c.args.word within c.index-old.ensures)
