use Rattle.std.proofs.Common.{◌≡◌, ◌∙◌, ap, sym, subst, length}
use Rattle.std.specs.Prelude.{MatchOption}
use Rattle.std.specs.List.{IsLastAndRest}
use Rattle.std.specs.FinMap as maps
use Rattle.file_tree.specs.Nodes.{IsAt, IsFree, path_in, path_of, step_from}
use Rattle.file_tree.specs.PlainTree.{plain, steps_of}
use Rattle.file_store.proofs.LayLemmas.{nothing_at, steps_pushed}
use Rattle.file_store.proofs.files.lay.Goals as goal

pub add-requires-clause-free : goal.add-requires-clause-free
add-requires-clause-free c =
    let nodes = c.args.tree.now in
    let parts = c.as_slice.result.now in
    let name = c.unwrap.result.0.now in
    let above = c.unwrap.result.1.now in
    let directory = c.unwrap-directory.result in
    let split = subst (λ found. MatchOption found (length parts ≡ 0) (λ pair. IsLastAndRest parts pair.0.now pair.1.now)) c.unwrap.ensures c.split_last.ensures.cases in
    let at = subst (λ found. MatchOption found (IsFree nodes (steps_of above)) (IsAt nodes (steps_of above))) c.unwrap-directory.ensures c.find.ensures.there in
    let here : path_in nodes directory ≡ steps_of above = ap path_of at.held ∙ at.at in
    let path : step_from (path_in nodes directory) 0 c.as_bytes.result.now ≡ steps_of c.args.node.now.path =
    (λ i. step_from (here i) 0 (c.as_bytes.ensures i)) ∙ steps_pushed above name ∙ ap steps_of (sym split.0 ∙ c.as_slice.ensures) in
    nothing_at nodes c.requires.made.mirrored _ (ap (maps.get (plain nodes)) path ∙ c.requires.may.free)
