use Rattle.slot_tables.specs.Slots.{map_of}
use Rattle.port_store.specs.Stores.{StoreView}
use Rattle.port_store.proofs.UseLemmas.{use_of_slot}
use Rattle.port_store.proofs.ports.Ports.slot_use.Goals as goal

pub returns : goal.returns
returns g c =
    let shown : StoreView = record { opening = c.self.inside.opening; ports = map_of c.self.inside.table.items; rights = c.self.inside.grants } in
    rw (← c.self.view_is) (use_of_slot shown c.args.client c.args.slot c.usable.result c.ranges.slot.fits c.usable.ensures.told)
