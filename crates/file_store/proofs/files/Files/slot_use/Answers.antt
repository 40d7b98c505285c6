use Rattle.file_store.specs.Stores.{StoreView}
use Rattle.file_store.proofs.UseLemmas.{use_of_slot}
use Rattle.file_store.proofs.files.Files.slot_use.Goals as goal

pub returns : goal.returns
returns g c =
    let shown : StoreView = record { opening = c.self.inside.opening; nodes = c.self.inside.tree; rights = c.self.inside.grants } in
    rw (← c.self.view_is) (use_of_slot shown c.args.client c.args.slot c.usable.result c.ranges.slot.fits c.usable.ensures.told)
