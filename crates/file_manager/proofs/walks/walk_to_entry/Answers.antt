-- Where a walk along a path with names ends.
use Rattle.file_manager.proofs.WalkLemmas.{on_path}
use Rattle.file_manager.proofs.walks.walk_to_entry.Goals as goal

pub returns : goal.returns
returns g c =
    on_path g.met.A.Asker.transitive c.args.files.now.nodes c.args.operation.now c.walk_below.new.operation c.root-root.result c.in-Some.name.now c.in-Some.names.now
    c.args.path.now c.walk_below.result c.in-Some.ensures.cases.0 c.root-root.ensures.root c.tree.ensures.well_made.root_path (c.walk_below.ensures 0)
