use Rattle.std.proofs.Common.{◌<◌, ◌∙◌, ap, arith, take, drop}
use Rattle.std.specs.FinMap as maps
use Rattle.slot_tables.specs.Slots.{map_of}
use Rattle.file_tree.specs.Nodes.{path_in}
use Rattle.file_tree.specs.Shelves.{names_on, place_of}
use Rattle.file_tree.proofs.Paths.{if_ok}
use Rattle.file_tree.proofs.TreeLemmas.{shelf_or, shelf-is, names-or}
use Rattle.file_tree.proofs.PlainLemmas.{once_of}
use Rattle.file_tree.proofs.BelowLemmas.{names-shelf}
use Rattle.file_tree.proofs.tree.Tree.names.Goals as goal

pub returns-clause-page : goal.returns-clause-page
returns-clause-page c = rw (← c.self.view_is) (if_ok c.names.result c.names.ensures (λ names is. record {
  shelf = shelf_or (maps.get c.self.inside.entries (place_of c.args.directory c.args.key));
  each = shelf-is _ c.self.inside.entries c.self.invariant.0 c.args.directory c.args.key (rw (← c.self.view_is) at c.requires) (omega arith);
  page = is ∙ ap (λ place. take c.args.most (drop c.args.skip (names_on (maps.get c.self.inside.entries place)))) c.place_of.ensures
      ∙ ap (λ keys. take c.args.most (drop c.args.skip keys)) (names-or (maps.get c.self.inside.entries (place_of c.args.directory c.args.key)));
}))

pub returns-clause-plain : goal.returns-clause-plain
returns-clause-plain c =
    let nodes = map_of c.self.inside.slots.items in
    let shelf = shelf_or (maps.get c.self.inside.entries (place_of c.args.directory c.args.key)) in
    let small : c.args.key < 65536 = omega arith in
    let each = shelf-is nodes c.self.inside.entries c.self.invariant.0 c.args.directory c.args.key (rw (← c.self.view_is) at c.requires) small in
    rw (← c.self.view_is) (if_ok c.names.result c.names.ensures (λ names is. is
    ∙ ap (λ place. take c.args.most (drop c.args.skip (names_on (maps.get c.self.inside.entries place)))) c.place_of.ensures
    ∙ ap (λ keys. take c.args.most (drop c.args.skip keys)) (names-or (maps.get c.self.inside.entries (place_of c.args.directory c.args.key))
    ∙ names-shelf nodes (once_of nodes c.self.inside.entries c.self.invariant.0) (path_in nodes c.args.directory) c.args.key shelf each)))
