use Rattle.std.proofs.Common.{◌∙◌, ap}
use Rattle.std.specs.List.{list_any}
use Rattle.slot_tables.specs.Slots.{map_of}
use Rattle.file_tree.specs.Nodes.{is_in, path_in}
use Rattle.file_tree.proofs.TreeLemmas.{has_entry}
use Rattle.file_tree.proofs.PlainLemmas.{once_of}
use Rattle.file_tree.proofs.BelowLemmas.{has_entry-plain}
use Rattle.file_tree.proofs.tree.Tree.has_entries.Goals as goal

pub returns-clause-entry : goal.returns-clause-entry
returns-clause-entry c = rw (← c.self.view_is) (has_entry c.self.inside.slots.items c.self.inside.entries c.self.invariant.0 c.args.directory (rw (← c.self.view_is) at c.requires) c.some_in.result
    (c.some_in.ensures ∙ ap (list_any (is_in c.args.directory)) c.as_slice.ensures.value))

pub returns-clause-plain : goal.returns-clause-plain
returns-clause-plain c =
    let nodes = map_of c.self.inside.slots.items in
    rw (← c.self.view_is) (has_entry-plain nodes (once_of nodes c.self.inside.entries c.self.invariant.0) (path_in nodes c.args.directory) c.some_in.result
    (has_entry c.self.inside.slots.items c.self.inside.entries c.self.invariant.0 c.args.directory (rw (← c.self.view_is) at c.requires) c.some_in.result
    (c.some_in.ensures ∙ ap (list_any (is_in c.args.directory)) c.as_slice.ensures.value)))
