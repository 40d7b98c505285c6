use Rattle.std.proofs.Common.{◌++◌, ap, subst, ◌∙◌, is_some}
use Rattle.std.specs.Prelude.{MatchOption}
use Rattle.std.specs.FinMap as maps
use Rattle.file_tree.specs.Nodes.{IsAt, IsFree, path_in}
use Rattle.file_tree.specs.PlainTree.{steps_of}
use Rattle.file_tree.proofs.TreeLemmas.{directory_is}
use Rattle.file_tree.proofs.BelowLemmas.{item-is}
use Rattle.file_tree.proofs.tree.Tree.find.Goals as goal

pub find_from-requires-clause-there : goal.find_from-requires-clause-there
find_from-requires-clause-there c =
    let nodes = c.args.self.now in
    ap (λ number. is_some (maps.get nodes number)) c.root.ensures.root ∙ ap is_some (directory_is (maps.get nodes 0) c.root.ensures.directory).1

pub returns-clause-there : goal.returns-clause-there
returns-clause-there c =
    let nodes = c.args.self.now in
    let names = steps_of c.args.names.now in
    subst (λ path. MatchOption c.find_from.result (IsFree nodes (path ++ names)) (IsAt nodes (path ++ names)))
    (ap (path_in nodes) c.root.ensures.root ∙ c.root.ensures.path) c.find_from.ensures

pub returns-clause-plain : goal.returns-clause-plain
returns-clause-plain c =
    let nodes = c.args.self.now in
    let names = steps_of c.args.names.now in
    item-is nodes c.root.ensures.once names c.find_from.result
    (subst (λ path. MatchOption c.find_from.result (IsFree nodes (path ++ names)) (IsAt nodes (path ++ names)))
    (ap (path_in nodes) c.root.ensures.root ∙ c.root.ensures.path) c.find_from.ensures)
