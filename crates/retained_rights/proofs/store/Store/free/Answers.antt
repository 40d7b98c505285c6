use Rattle.std.proofs.Common.{◌∙◌, sym}
use Rattle.slot_tables.specs.Slots.{map_of}
use Rattle.retained_rights.proofs.IndexLemmas.{place_small, taken_none, indexed_taken}
use Rattle.retained_rights.proofs.store.Store.free.Goals as goal

pub returns-in_default-clause-held : goal.returns-in_default-clause-held
returns-in_default-clause-held c = rw (← c.self.view_is) (taken_none (map_of c.self.inside.table) c.args.place (sym c.get.ensures.value ∙ c.in_default.is))

pub remove-requires-2 : goal.remove-requires-2
remove-requires-2 c = place_small c.self.invariant c.args.place c.in-Some.grant (sym c.get.ensures.value ∙ c.in-Some.is)

pub remove-requires-3 : goal.remove-requires-3
remove-requires-3 c = place_small c.self.invariant c.args.place c.in-Some.grant (sym c.get.ensures.value ∙ c.in-Some.is)

pub invariant_of-self-2 : goal.invariant_of-self-2
invariant_of-self-2 c =
    indexed_taken c.self.invariant (map_of c.clear.new.self) c.remove.new.self c.remove-2.new.self c.remove-3.new.self c.args.place c.in-Some.grant (sym c.get.ensures.value ∙ c.in-Some.is)
    c.clear.ensures.map c.remove.ensures.room (rw c.pair_name.ensures at c.remove-2.ensures.on) c.remove-3.ensures.on
