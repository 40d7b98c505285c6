use Rattle.std.proofs.Common.{ℕ, IsTrue, get_or, ◌∙◌, sym, subst}
use Rattle.file_store.specs.Stores.{StoreView}
use Rattle.file_store.specs.Laws.{safe_is}
use Rattle.file_store.proofs.files.Files.sid.Goals as goal

pub returns-clause-known : goal.returns-clause-known
returns-clause-known g c = λ d kept.
    let shown : StoreView = record { opening = c.self.inside.opening; nodes = c.self.inside.tree; rights = c.self.inside.grants } in
    let found = c.index-as_slice-from.result in
    subst (λ (sid : ℕ). IsTrue (d.known sid)) (sym (c.index-as_slice-from.is ∙ (λ i. get_or (c.as_slice.ensures i) (c.from.ensures i) found)))
    ((safe_is d shown (rw (← c.self.view_is) at kept)).clients c.args.client found (rw (← c.self.view_is) at c.requires))
