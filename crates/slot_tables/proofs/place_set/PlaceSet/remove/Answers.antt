use Rattle.std.proofs.Common.{◌≡◌, ℕ, ◌+◌, ◌-◌, ◌/◌, ◌<◌, ◌≤◌, true, length, arith}
use Rattle.std.proofs.lemmas.List.{length-set}
use Rattle.slot_tables.specs.Words.{holds}
use Rattle.slot_tables.proofs.BitLemmas.{length_places_less}
use Rattle.slot_tables.proofs.SetLemmas.{not_held, is_held, held-removed, held-absent, holds-past}
use Rattle.slot_tables.proofs.place_set.PlaceSet.remove.Goals as goal

less_one : (count more less : ℕ) → count ≡ more → less + 1 ≡ more → count - 1 ≡ less
less_one count more less is one = omega arith

some_of : (count more less : ℕ) → count ≡ more → less + 1 ≡ more → 1 ≤ count
some_of count more less is one = omega arith

pub overflow_sub-self : goal.overflow_sub-self
overflow_sub-self c =
    let words = c.self.inside.words.items in
    let within : c.args.place / 64 < length words = omega arith in
    let held : holds words c.args.place ≡ true = is_held words c.args.place _ within c.index-old.ensures c.if-old-bit-ne0.true in
    some_of _ _ _ c.self.invariant.0 (length_places_less words _ c.args.place held (held-removed words c.args.place _ within c.index-old.ensures))

pub invariant_of-self : goal.invariant_of-self
invariant_of-self c =
    let words = c.self.inside.words.items in
    let within : c.args.place / 64 < length words = omega arith in
    let held : holds words c.args.place ≡ true = is_held words c.args.place _ within c.index-old.ensures c.if-old-bit-ne0.true in (
      less_one _ _ _ c.self.invariant.0 (length_places_less words _ c.args.place held (held-removed words c.args.place _ within c.index-old.ensures)),
      rw length-set c.self.invariant.1,
    )

pub returns-then-old-bit-ne0-clause-held : goal.returns-then-old-bit-ne0-clause-held
returns-then-old-bit-ne0-clause-held c =
    let words = c.self.inside.words.items in
    let within : c.args.place / 64 < length words = omega arith in
    rw (← c.self.view_is) (held-removed words c.args.place _ within c.index-old.ensures)

pub returns-else-old-bit-ne0-clause-held : goal.returns-else-old-bit-ne0-clause-held
returns-else-old-bit-ne0-clause-held c =
    let words = c.self.inside.words.items in
    let within : c.args.place / 64 < length words = omega arith in
    rw (← c.self.view_is) (held-absent words c.args.place (not_held words c.args.place _ within c.index-old.ensures c.if-old-bit-ne0.false))

pub returns-else-block-len-clause-held : goal.returns-else-block-len-clause-held
returns-else-block-len-clause-held c =
    let words = c.self.inside.words.items in
    rw (← c.self.view_is) (held-absent words c.args.place (holds-past words c.args.place (omega arith)))
