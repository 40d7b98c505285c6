use Rattle.std.proofs.Common.{◌∙◌, ap, sym}
use Rattle.std.specs.Option.{option_copied}
use Rattle.file_store.specs.Stores.{StoreView}
use Rattle.file_store.specs.Laws.{safe_is}
use Rattle.file_store.proofs.files.Files.node.Goals as goal

pub returns-clause-known : goal.returns-clause-known
returns-clause-known g c = λ d kept.
    let shown : StoreView = record { opening = c.self.inside.opening; nodes = c.self.inside.tree; rights = c.self.inside.grants } in
    (safe_is d shown (rw (← c.self.view_is) at kept)).labels c.args.object c.unwrap.result.now (sym c.node.ensures.node ∙ ap option_copied c.unwrap.ensures)
