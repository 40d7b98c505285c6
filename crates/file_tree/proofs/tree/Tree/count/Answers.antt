use Rattle.std.proofs.Common.{◌<◌, ◌∙◌, ap, arith}
use Rattle.std.specs.FinMap as maps
use Rattle.slot_tables.specs.Slots.{map_of}
use Rattle.file_tree.specs.Nodes.{path_in}
use Rattle.file_tree.specs.Shelves.{count_on, place_of}
use Rattle.file_tree.proofs.TreeLemmas.{shelf_or, shelf-is, count-or}
use Rattle.file_tree.proofs.PlainLemmas.{once_of}
use Rattle.file_tree.proofs.BelowLemmas.{len-shelf}
use Rattle.file_tree.proofs.tree.Tree.count.Goals as goal

pub returns-clause-count : goal.returns-clause-count
returns-clause-count c = rw (← c.self.view_is) (record {
  shelf = shelf_or (maps.get c.self.inside.entries (place_of c.args.directory c.args.key));
  each = shelf-is _ c.self.inside.entries c.self.invariant.0 c.args.directory c.args.key (rw (← c.self.view_is) at c.requires) (omega arith);
  all = c.count.ensures ∙ ap (λ place. count_on (maps.get c.self.inside.entries place)) c.place_of.ensures
      ∙ count-or (maps.get c.self.inside.entries (place_of c.args.directory c.args.key));
})

pub returns-clause-plain : goal.returns-clause-plain
returns-clause-plain c =
    let nodes = map_of c.self.inside.slots.items in
    let shelf = shelf_or (maps.get c.self.inside.entries (place_of c.args.directory c.args.key)) in
    let small : c.args.key < 65536 = omega arith in
    let each = shelf-is nodes c.self.inside.entries c.self.invariant.0 c.args.directory c.args.key (rw (← c.self.view_is) at c.requires) small in
    rw (← c.self.view_is) (c.count.ensures ∙ ap (λ place. count_on (maps.get c.self.inside.entries place)) c.place_of.ensures
    ∙ count-or (maps.get c.self.inside.entries (place_of c.args.directory c.args.key))
    ∙ len-shelf nodes (once_of nodes c.self.inside.entries c.self.invariant.0) (path_in nodes c.args.directory) c.args.key shelf each)
