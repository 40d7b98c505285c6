-- What a slot holds is a file of the tree.
use Rattle.std.proofs.Common.{◌∙◌, rules, ap, sym}
use Rattle.std.specs.Option.{option_copied}
use Rattle.file_store.specs.Stores.{StoreView}
use Rattle.file_store.specs.Uses.{HasBytes}
use Rattle.file_store.proofs.UseLemmas.{use_is, file_of_use, free_where_none}
use Rattle.file_store.specs.Laws.{safe_is}
use Rattle.file_store.proofs.files.Files.held.Goals as goal

pub returns-in_err-usable-clause-told : goal.returns-in_err-usable-clause-told
returns-in_err-usable-clause-told g c =
    let shown : StoreView = record { opening = c.self.inside.opening; nodes = c.self.inside.tree; rights = c.self.inside.grants } in
    rw (← c.self.view_is) (free_where_none shown c.args.client c.args.slot c.from_residual.result _ (search rules) c.in_err-usable.ensures.told)

pub unwrap-node-requires : goal.unwrap-node-requires
unwrap-node-requires g c =
    let shown : StoreView = record { opening = c.self.inside.opening; nodes = c.self.inside.tree; rights = c.self.inside.grants } in
    let file = file_of_use shown c.args.client c.args.slot c.in_ok-usable.usable c.self.invariant c.in_ok-usable.ensures.is in
    let there = file.held in
    search rules

pub unwrap-bytes-requires : goal.unwrap-bytes-requires
unwrap-bytes-requires g c =
    let shown : StoreView = record { opening = c.self.inside.opening; nodes = c.self.inside.tree; rights = c.self.inside.grants } in
    let file = file_of_use shown c.args.client c.args.slot c.in_ok-usable.usable c.self.invariant c.in_ok-usable.ensures.is in
    let is = file.file in
    search rules

pub returns-clause-told : goal.returns-clause-told
returns-clause-told g c = λ d kept.
    let shown : StoreView = record { opening = c.self.inside.opening; nodes = c.self.inside.tree; rights = c.self.inside.grants } in
    let safe = rw (← c.self.view_is) at kept in
    rw (← c.self.view_is) (use_is d shown c.args.client c.args.slot c.in_ok-usable.usable c.ranges.slot.fits (c.in_ok-usable.ensures.told d (safe_is d shown safe).rights) safe)

pub returns-clause-bytes : goal.returns-clause-bytes
returns-clause-bytes g c =
    let shown : StoreView = record { opening = c.self.inside.opening; nodes = c.self.inside.tree; rights = c.self.inside.grants } in
    let bytes : HasBytes shown c.in_ok-usable.usable.object c.as_bytes.result.now = record {
      node = c.unwrap-node.result.now;
      at = sym c.node.ensures.node ∙ ap option_copied c.unwrap-node.ensures;
      bytes_are = search rules;
      file = rw c.unwrap-node.ensures at c.node.ensures.plain;
    } in
    rw (← c.self.view_is) bytes
