use Rattle.std.proofs.Common.{ℕ, IsTrue, ◌∙◌, ap, sym, subst}
use Rattle.slot_tables.specs.Slots.{map_of}
use Rattle.port_store.specs.Stores.{StoreView}
use Rattle.port_store.specs.Laws.{safe_is}
use Rattle.port_calls.specs.States.{label_in}
use Rattle.port_store.proofs.LabelLemmas.{known_label}
use Rattle.port_store.proofs.ports.Ports.label.Goals as goal

pub returns-clause-known : goal.returns-clause-known
returns-clause-known g c = λ d kept.
    let shown : StoreView = record { opening = c.self.inside.opening; ports = map_of c.self.inside.table.items; rights = c.self.inside.grants } in
    let safe = safe_is d shown (rw (← c.self.view_is) at kept) in
    subst (λ (sid : ℕ). IsTrue (d.known sid)) (sym (c.label_in.ensures ∙ ap (λ lines. label_in lines shown.opening.initial c.args.port) c.as_slice.ensures)) (known_label d shown.opening c.args.port safe.known)
