use Rattle.std.proofs.Common.{ℕ, IsTrue, get_or, ◌∙◌, sym, subst}
use Rattle.slot_tables.specs.Slots.{map_of}
use Rattle.port_store.specs.Stores.{StoreView}
use Rattle.port_store.specs.Laws.{safe_is}
use Rattle.port_store.proofs.ports.Ports.sid.Goals as goal

pub returns-clause-known : goal.returns-clause-known
returns-clause-known g c = λ d kept.
    let shown : StoreView = record { opening = c.self.inside.opening; ports = map_of c.self.inside.table.items; rights = c.self.inside.grants } in
    let found = c.index-as_slice-from.result in
    subst (λ (sid : ℕ). IsTrue (d.known sid)) (sym (c.index-as_slice-from.is ∙ (λ i. get_or (c.as_slice.ensures i) (c.from.ensures i) found)))
    ((safe_is d shown (rw (← c.self.view_is) at kept)).known.0 c.args.client found (rw (← c.self.view_is) at c.requires))
