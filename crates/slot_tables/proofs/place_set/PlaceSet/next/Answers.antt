use Rattle.slot_tables.proofs.SetLemmas.{next-small}
use Rattle.slot_tables.proofs.place_set.PlaceSet.next.Goals as goal

pub returns-clause-small : goal.returns-clause-small
returns-clause-small c = next-small c.self.inside.words.items c.args.from c.next_place.result c.self.invariant.1 (rw c.as_slice.ensures.value at c.next_place.ensures)
