use Rattle.slot_tables.specs.Slots.{map_of}
use Rattle.process_store.specs.Stores.{StoreView}
use Rattle.process_store.proofs.UseLemmas.{use_of_slot}
use Rattle.process_store.proofs.processes.Processes.slot_use.Goals as goal

pub returns : goal.returns
returns g c =
    let shown : StoreView = record { opening = c.self.inside.opening; processes = map_of c.self.inside.table; rights = c.self.inside.grants } in
    rw (← c.self.view_is) (use_of_slot shown c.args.client c.args.slot c.usable.result c.ranges.slot.fits c.usable.ensures.told)
