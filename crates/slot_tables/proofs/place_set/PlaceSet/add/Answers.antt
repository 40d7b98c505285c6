use Rattle.std.proofs.Common.{◌≡◌, ◌+◌, ◌*◌, ◌/◌, ◌<◌, false, length, ap, ◌∙◌, arith}
use Rattle.std.proofs.lemmas.List.{length-set}
use Rattle.slot_tables.specs.Words.{holds}
use Rattle.slot_tables.proofs.BitLemmas.{length_places-le}
use Rattle.slot_tables.proofs.SetLemmas.{not_held, is_held, held-added, count-added, held-same}
use Rattle.slot_tables.proofs.place_set.PlaceSet.add.Goals as goal

pub overflow_add-self : goal.overflow_add-self
overflow_add-self c = omega (arith, length_places-le c.self.inside.words.items, c.self.invariant.0, c.self.invariant.1)

pub invariant_of-self : goal.invariant_of-self
invariant_of-self c =
    let words = c.self.inside.words.items in
    let room : c.args.place < 64 * length words = rw (← c.self.view_is) at c.requires in
    let within : c.args.place / 64 < length words = omega arith in
    let absent : holds words c.args.place ≡ false = not_held words c.args.place _ within c.index-old.ensures c.if-old-bit-eq0.true in (
      ap (λ n. n + 1) c.self.invariant.0 ∙ count-added words _ c.args.place absent (held-added words c.args.place _ within c.index-old.ensures),
      rw length-set c.self.invariant.1,
    )

pub returns-then-old-bit-eq0-clause-held : goal.returns-then-old-bit-eq0-clause-held
returns-then-old-bit-eq0-clause-held c =
    let words = c.self.inside.words.items in
    let room : c.args.place < 64 * length words = rw (← c.self.view_is) at c.requires in
    let within : c.args.place / 64 < length words = omega arith in
    rw (← c.self.view_is) (held-added words c.args.place _ within c.index-old.ensures)

pub returns-else-old-bit-eq0-clause-held : goal.returns-else-old-bit-eq0-clause-held
returns-else-old-bit-eq0-clause-held c =
    let words = c.self.inside.words.items in
    let room : c.args.place < 64 * length words = rw (← c.self.view_is) at c.requires in
    let within : c.args.place / 64 < length words = omega arith in
    rw (← c.self.view_is) (held-same words c.args.place (is_held words c.args.place _ within c.index-old.ensures c.if-old-bit-eq0.false))
