use Rattle.std.proofs.Common.{refl}
use Rattle.slot_tables.specs.Slots.{map_of}
use Rattle.slot_tables.proofs.SlotLemmas.{used_within}
use Rattle.retained_rights.specs.Stored.{rewritten}
use Rattle.retained_rights.proofs.IndexLemmas.{place_small, indexed_rewritten}
use Rattle.retained_rights.proofs.store.Store.replace.Goals as goal

pub move_place-requires-clause-small : goal.move_place-requires-clause-small
move_place-requires-clause-small c = place_small c.self.invariant c.args.place c.args.was (rw (← c.self.view_is) at c.requires.used)

pub set-requires : goal.set-requires
set-requires c = used_within c.self.inside.table c.args.place c.args.was (rw (← c.self.view_is) at c.requires.used)

pub invariant_of-self : goal.invariant_of-self
invariant_of-self c =
    indexed_rewritten c.self.invariant (map_of c.set.new.self) c.set_stale.new.stale c.move_place.new.by_pair c.self.inside.by_object c.args.place c.args.was
    (rewritten c.args.was c.args.t c.args.bits c.args.number) (rw (← c.self.view_is) at c.requires.used) refl c.set.ensures.map c.set_stale.ensures.room
    (rw (c.pair_name.ensures, c.pair_name-2.ensures) at c.move_place.ensures.on) (λ n q. refl)
