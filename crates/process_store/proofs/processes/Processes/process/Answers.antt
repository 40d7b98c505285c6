use Rattle.std.proofs.Common.{◌≡◌, IsTrue, Option, None, Some, refl, sym, ◌∙◌}
use Rattle.std.specs.Prelude.{IfSome}
use Rattle.slot_tables.specs.Slots.{map_of}
use Rattle.process_store.specs.Stores.{StoreView}
use Rattle.process_store.specs.Laws.{safe_is}
use Rattle.process_calls.specs.declared.process.Process.{Process}
use Rattle.process_store.proofs.processes.Processes.process.Goals as goal

pub returns-clause-known : goal.returns-clause-known
returns-clause-known g c = λ d kept.
    let shown : StoreView = record { opening = c.self.inside.opening; processes = map_of c.self.inside.table; rights = c.self.inside.grants } in
    let labels = (safe_is d shown (rw (← c.self.view_is) at kept)).labels c.args.pid in
    elim c.get.result as (λ (found : Option Process). c.get.result ≡ found → IfSome found (λ process. IsTrue (d.known process.label))) [
      | None ↦ λ is. tt
      | Some process ↦ λ is. labels process (sym c.get.ensures.value ∙ is)
    ] refl
