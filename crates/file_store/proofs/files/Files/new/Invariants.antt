use Rattle.file_tree.specs.PlainTree.{IsWellMade, plain}
use Rattle.file_store.proofs.LayLemmas.{IsLaying}
use Rattle.file_store.proofs.files.Files.new.Given as goal

abbrev pub invariant-loop-node : goal.invariant-loop-node
invariant-loop-node g l = IsLaying (plain l.tree) l.fn.opening.root l.fn.opening.nodes l.node-index × IsWellMade l.tree
