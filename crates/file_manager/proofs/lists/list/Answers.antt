-- The rest of the row, behind its walk.
use Rattle.mode_questions.specs.Operations.{request}
use Rattle.file_calls.specs.Walks.{walked}
use Rattle.file_calls.specs.PathCalls.{listed_at}
use Rattle.file_store.specs.Stores.{state_of}
use Rattle.file_manager.proofs.AfterWalk.{says_after, to_found}
use Rattle.file_manager.proofs.lists.list.Goals as goal

pub returns-in-Found : goal.returns-in-Found
returns-in-Found g c =
    let state = state_of c.args.files.now in
    let walk = walked (request c.args.operation.now) state c.args.path.now in
    says_after g.met.A.Asker.transitive (λ r at above item. listed_at r state c.args.skip at item)
    c.args.operation.now c.walk.new.operation c.list_node.new.operation c.args.files.now walk _ _ _ c.list_node.result
    (to_found c.args.files.now.nodes walk c.in-Found.object c.in_ok-stop.field-0 c.in-Found.is c.in_ok-stop.ensures.0)
    c.in_ok-stop.ensures.1 c.list_node.ensures
