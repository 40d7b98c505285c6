use Rattle.std.proofs.Common.{[], ◌∙◌, ap}
use Rattle.slot_tables.specs.Slots.{map_of}
use Rattle.slot_tables.proofs.SlotLemmas.{map_of-none}
use Rattle.retained_rights.proofs.IndexLemmas.{indexed_none}
use Rattle.retained_rights.proofs.store.Store.new.Goals as goal

pub invariant_of-result : goal.invariant_of-result
invariant_of-result c =
    rw (c.new-2.ensures, c.new-3.ensures, c.new-4.ensures) (indexed_none (map_of c.new.result) (ap map_of c.new.ensures ∙ map_of-none))

pub returns : goal.returns
returns c = rw (c.new-2.ensures, c.new-3.ensures) (λ i. record { held = (ap map_of c.new.ensures ∙ map_of-none) i; words = []; pairs = [] })
