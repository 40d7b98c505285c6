use Rattle.std.proofs.Common.{refl}
use Rattle.slot_tables.specs.Slots.{map_of}
use Rattle.slot_tables.proofs.SlotLemmas.{used_within}
use Rattle.retained_rights.specs.Stored.{rewritten}
use Rattle.retained_rights.proofs.IndexLemmas.{indexed_refreshed}
use Rattle.retained_rights.proofs.store.Store.refresh.Goals as goal

pub set-requires : goal.set-requires
set-requires c = used_within c.self.inside.table c.args.place c.args.was (rw (← c.self.view_is) at c.requires)

pub invariant_of-self : goal.invariant_of-self
invariant_of-self c =
    indexed_refreshed c.self.invariant (map_of c.set.new.self) c.remove.new.self c.args.place c.args.was (rewritten c.args.was c.args.was.t c.args.bits c.args.number)
    (rw (← c.self.view_is) at c.requires) refl refl c.set.ensures.map c.remove.ensures.room
