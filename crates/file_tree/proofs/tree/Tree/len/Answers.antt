use Rattle.std.proofs.Common.{◌∙◌, sym}
use Rattle.file_tree.proofs.PlainLemmas.{len-plain, once_of}
use Rattle.file_tree.proofs.tree.Tree.len.Goals as goal

pub returns-clause-nodes : goal.returns-clause-nodes
returns-clause-nodes c = rw (← c.self.view_is) c.self.invariant.2

pub returns-clause-plain : goal.returns-clause-plain
returns-clause-plain c = rw (← c.self.view_is) (c.self.invariant.2 ∙ sym (len-plain _ (once_of _ c.self.inside.entries c.self.invariant.0)))
