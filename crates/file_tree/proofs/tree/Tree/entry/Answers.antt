use Rattle.std.proofs.Common.{◌<◌, ◌∙◌, ap, arith}
use Rattle.slot_tables.specs.Slots.{map_of}
use Rattle.file_tree.specs.Shelves.{number_at}
use Rattle.file_tree.specs.Nodes.{path_in, step_from}
use Rattle.file_tree.proofs.TreeLemmas.{entry-is}
use Rattle.file_tree.proofs.PlainLemmas.{once_of}
use Rattle.file_tree.proofs.BelowLemmas.{item-is}
use Rattle.file_tree.proofs.tree.Tree.entry.Goals as goal

pub returns-clause-there : goal.returns-clause-there
returns-clause-there c = rw (← c.self.view_is) (entry-is _ c.self.inside.entries c.self.invariant.0 c.args.directory c.args.key c.args.name.now (rw (← c.self.view_is) at c.requires) (omega arith) c.get.result
    (c.get.ensures ∙ ap (λ place. number_at c.self.inside.entries place c.args.name.now) c.place_of.ensures))

pub returns-clause-plain : goal.returns-clause-plain
returns-clause-plain c =
    let nodes = map_of c.self.inside.slots.items in
    let small : c.args.key < 65536 = omega arith in
    rw (← c.self.view_is) (item-is nodes (once_of nodes c.self.inside.entries c.self.invariant.0) (step_from (path_in nodes c.args.directory) c.args.key c.args.name.now) c.get.result
    (entry-is nodes c.self.inside.entries c.self.invariant.0 c.args.directory c.args.key c.args.name.now (rw (← c.self.view_is) at c.requires) small c.get.result
    (c.get.ensures ∙ ap (λ place. number_at c.self.inside.entries place c.args.name.now) c.place_of.ensures)))
