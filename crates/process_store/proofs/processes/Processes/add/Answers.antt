use Rattle.std.proofs.Common.{ap, ◌∙◌}
use Rattle.std.specs.FinMap as maps
use Rattle.slot_tables.specs.Slots.{map_of}
use Rattle.process_store.specs.Stores.{StoreView}
use Rattle.process_store.proofs.ChangeLemmas.{counted_added, safe_added}
use Rattle.process_store.proofs.processes.Processes.add.Goals as goal

pub invariant_of-self-2 : goal.invariant_of-self-2
invariant_of-self-2 g c =
    let shown : StoreView = record { opening = c.self.inside.opening; processes = map_of c.self.inside.table; rights = c.self.inside.grants } in
    counted_added shown c.args.pid c.args.process (map_of c.set.new.self) (c.set.ensures.map ∙ ap (λ m. maps.insert m c.args.pid c.args.process) c.grow.ensures.map) (rw (← c.self.view_is) at c.requires.free) c.self.invariant.step c.self.inside.kept c.self.invariant.count_is

pub returns-clause-safe : goal.returns-clause-safe
returns-clause-safe g c = λ d known kept.
    let shown : StoreView = record { opening = c.self.inside.opening; processes = map_of c.self.inside.table; rights = c.self.inside.grants } in
    safe_added shown c.args.pid c.args.process (map_of c.set.new.self) (c.set.ensures.map ∙ ap (λ m. maps.insert m c.args.pid c.args.process) c.grow.ensures.map)
    (rw (← c.self.view_is) at c.requires.free) c.self.invariant.step d known (rw (← c.self.view_is) at kept)
