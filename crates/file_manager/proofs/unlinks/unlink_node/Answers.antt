-- A directory that is taken out has no entry.
use Rattle.std.proofs.Common.{subst}
use Rattle.file_tree.specs.Nodes.{Nodes, HasNoEntry, path_in}
use Rattle.file_manager.proofs.unlinks.unlink_node.Goals as goal

pub remove-requires-2-clause-empty : goal.remove-requires-2-clause-empty
remove-requires-2-clause-empty g c = λ directory.
    subst (λ (nodes : Nodes). HasNoEntry nodes (path_in nodes c.args.object)) c.tree.ensures.value c.if-has_entries.ensures.entry
