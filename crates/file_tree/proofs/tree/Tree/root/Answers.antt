use Rattle.file_tree.proofs.PlainLemmas.{well_made}
use Rattle.file_tree.proofs.tree.Tree.root.Goals as goal

pub returns-clause-directory : goal.returns-clause-directory
returns-clause-directory c = rw (← c.self.view_is) (well_made _ c.self.inside.entries c.self.invariant.0).root

pub returns-clause-path : goal.returns-clause-path
returns-clause-path c = rw (← c.self.view_is) (well_made _ c.self.inside.entries c.self.invariant.0).root_path

pub returns-clause-once : goal.returns-clause-once
returns-clause-once c = rw (← c.self.view_is) (well_made _ c.self.inside.entries c.self.invariant.0).once

pub returns-clause-parents : goal.returns-clause-parents
returns-clause-parents c = rw (← c.self.view_is) (well_made _ c.self.inside.entries c.self.invariant.0).parents

pub returns-clause-mirrored : goal.returns-clause-mirrored
returns-clause-mirrored c = rw (← c.self.view_is) (well_made _ c.self.inside.entries c.self.invariant.0).mirrored

pub returns-clause-made : goal.returns-clause-made
returns-clause-made c = rw (← c.self.view_is) (well_made _ c.self.inside.entries c.self.invariant.0)
