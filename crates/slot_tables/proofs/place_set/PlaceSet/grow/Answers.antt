use Rattle.std.proofs.Common.{◌∙◌, sym, ap, length, arith}
use Rattle.slot_tables.proofs.WordLemmas.{same_places}
use Rattle.slot_tables.proofs.place_set.PlaceSet.grow.Goals as goal

pub invariant_of-self : goal.invariant_of-self
invariant_of-self c = (
  c.self.invariant.0 ∙ ap length (sym (same_places c.self.inside.words.items c.grow_words.new.words.items c.grow_words.ensures.held)),
  c.grow_words.ensures.limit 1024 (omega arith) c.self.invariant.1,
)
