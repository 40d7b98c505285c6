use Rattle.slot_tables.specs.Slots.{map_of}
use Rattle.process_store.specs.Stores.{StoreView}
use Rattle.slot_tables.proofs.SlotLemmas.{used_within}
use Rattle.process_store.specs.Stores.{IsProcessOf}
use Rattle.process_store.proofs.ChangeLemmas.{counted_replaced, safe_replaced}
use Rattle.process_store.proofs.processes.Processes.replace.Goals as goal

pub set-requires : goal.set-requires
set-requires g c =
    let shown : StoreView = record { opening = c.self.inside.opening; processes = map_of c.self.inside.table; rights = c.self.inside.grants } in
    let there : IsProcessOf shown.processes c.args.pid c.args.process.label = rw (← c.self.view_is) at c.requires.there in
    used_within c.self.inside.table c.args.pid there.process there.held

pub invariant_of-self : goal.invariant_of-self
invariant_of-self g c =
    let shown : StoreView = record { opening = c.self.inside.opening; processes = map_of c.self.inside.table; rights = c.self.inside.grants } in
    counted_replaced shown c.args.pid c.args.process (map_of c.set.new.self) c.set.ensures.map (rw (← c.self.view_is) at c.requires.there) c.self.invariant.step c.self.inside.kept c.self.invariant.count_is

pub returns-clause-safe : goal.returns-clause-safe
returns-clause-safe g c = λ d kept.
    let shown : StoreView = record { opening = c.self.inside.opening; processes = map_of c.self.inside.table; rights = c.self.inside.grants } in
    safe_replaced shown c.args.pid c.args.process (map_of c.set.new.self) c.set.ensures.map (rw (← c.self.view_is) at c.requires.there) c.self.invariant.step d (rw (← c.self.view_is) at kept)
