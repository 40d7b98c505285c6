-- Where a walk along a path ends.
use Rattle.std.proofs.Common.{[]}
use Rattle.mode_questions.specs.Operations.{request}
use Rattle.file_tree.specs.PlainTree.{plain}
use Rattle.file_calls.specs.Walks.{walked_from}
use Rattle.file_manager.specs.Walking.{name_of}
use Rattle.file_manager.proofs.walks.walk.Goals as goal

pub returns : goal.returns
returns g c = (
  c.end_of.ensures c.args.files.now.nodes (walked_from (request c.args.operation.now) (plain c.args.files.now.nodes) 0 [] c.args.path.now) (name_of c.args.path.now)
      c.in_ok-below.ensures.0,
  c.in_ok-below.ensures.1,
)
