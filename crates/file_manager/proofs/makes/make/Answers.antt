-- The rest of the row, behind its walk.
use Rattle.mode_questions.specs.Operations.{request}
use Rattle.file_calls.specs.Walks.{walked}
use Rattle.file_calls.specs.PathCalls.{made_at}
use Rattle.file_manager.specs.Walking.{name_of}
use Rattle.file_store.specs.Stores.{state_of}
use Rattle.file_manager.proofs.AfterWalk.{serves_after, to_missing, missing_free}
use Rattle.file_manager.proofs.makes.make.Goals as goal

pub returns-in-Missing : goal.returns-in-Missing
returns-in-Missing g c =
    let state = state_of c.args.files.now in
    let walk = walked (request c.args.operation.now) state c.args.path.now in
    serves_after g.met.A.Asker.transitive (λ r at above item. made_at r state c.args.bytes at above item)
    c.args.operation.now c.walk_to_entry.new.operation c.make_in.new.operation c.args.files.now c.make_in.new.files walk _ _ _ c.make_in.result
    (to_missing c.args.files.now.nodes walk c.in-Missing.spot (name_of c.args.path.now) c.name_of.result.now c.in_ok-stop.field-0 c.in-Missing.is c.name_of.ensures c.in_ok-stop.ensures.0)
    c.in_ok-stop.ensures.1 c.make_in.ensures

pub make_in-requires-clause-free : goal.make_in-requires-clause-free
make_in-requires-clause-free g c =
    missing_free c.args.files.now.nodes (walked (request c.args.operation.now) (state_of c.args.files.now) c.args.path.now) c.in-Missing.spot (name_of c.args.path.now)
    c.name_of.result.now c.in_ok-stop.field-0 c.in-Missing.is c.name_of.ensures c.in_ok-stop.ensures.0
