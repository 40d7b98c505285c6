-- The rest of the row, behind its walk.
use Rattle.mode_questions.specs.Operations.{request}
use Rattle.file_calls.specs.Walks.{walked}
use Rattle.file_calls.specs.PathCalls.{unlinked_at}
use Rattle.file_calls.specs.PlainManager.{follows_without}
use Rattle.file_manager.specs.Walking.{name_of}
use Rattle.file_store.specs.Stores.{follows}
use Rattle.file_store.specs.Stores.{state_of}
use Rattle.file_manager.proofs.AfterWalk.{slots_after, to_found_in}
use Rattle.file_manager.proofs.unlinks.unlink.Goals as goal

pub returns-in-Found : goal.returns-in-Found
returns-in-Found g c =
    let state = state_of c.args.files.now in
    let walk = walked (request c.args.operation.now) state c.args.path.now in
    slots_after g.met.A.Asker.transitive (λ r at. follows_without state at (follows c.args.files.now)) (λ r at above item. unlinked_at r state at above item)
    c.args.operation.now c.walk_to_entry.new.operation c.unlink_node.new.operation c.args.files.now c.unlink_node.new.files walk _ _ _ c.unlink_node.result
    (to_found_in c.args.files.now.nodes walk c.in-Found.directory c.in-Found.object (name_of c.args.path.now) c.in_ok-stop.field-0 c.in-Found.is c.in_ok-stop.ensures.0)
    c.in_ok-stop.ensures.1 c.unlink_node.ensures
