-- The rest of the row, behind its walk.
use Rattle.mode_questions.specs.Operations.{request}
use Rattle.file_calls.specs.Walks.{walked}
use Rattle.file_calls.specs.PathCalls.{relabelled_at}
use Rattle.file_calls.specs.PlainManager.{follows_moved}
use Rattle.file_store.specs.Stores.{follows}
use Rattle.file_store.specs.Stores.{state_of}
use Rattle.file_manager.proofs.AfterWalk.{slots_after, to_found}
use Rattle.file_manager.proofs.relabels.relabel.Goals as goal

pub returns-in-Found : goal.returns-in-Found
returns-in-Found g c =
    let state = state_of c.args.files.now in
    let walk = walked (request c.args.operation.now) state c.args.path.now in
    slots_after g.met.A.Asker.transitive (λ r at. follows_moved state at r.number (follows c.args.files.now)) (λ r at above item. relabelled_at r state c.args.label at item)
    c.args.operation.now c.walk.new.operation c.relabel_node.new.operation c.args.files.now c.relabel_node.new.files walk _ _ _ c.relabel_node.result
    (to_found c.args.files.now.nodes walk c.in-Found.object c.in_ok-stop.field-0 c.in-Found.is c.in_ok-stop.ensures.0)
    c.in_ok-stop.ensures.1 c.relabel_node.ensures
