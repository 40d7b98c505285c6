-- The rest of the row, behind its walk.
use Rattle.mode_questions.specs.Operations.{request}
use Rattle.file_calls.specs.Walks.{walked}
use Rattle.std.proofs.Common.{◌≡◌, Option, None, sym, subst}
use Rattle.std.specs.FinMap as maps
use Rattle.access_vectors.specs.Stale.{slot_place}
use Rattle.file_calls.specs.SlotCalls.{open_into, opened_at}
use Rattle.file_calls.specs.States.{Held}
use Rattle.file_manager.specs.Serving.{ServesSlots}
use Rattle.file_store.specs.Stores.{follows}
use Rattle.file_store.specs.Stores.{state_of}
use Rattle.file_manager.proofs.AfterWalk.{slots_after, to_found}
use Rattle.file_manager.proofs.opens.open.Goals as goal

pub returns-in-Found : goal.returns-in-Found
returns-in-Found g c =
    let state = state_of c.args.files.now in
    let walk = walked (request c.args.operation.now) state c.args.path.now in
    let place = slot_place c.args.operation.now.caller.now.client c.args.slot in
    let free : maps.get state.slots place ≡ None = c.in_default.ensures.held in
    subst (λ (found : Option Held). ServesSlots (maps.insert (follows c.args.files.now) place c.args.operation.now.caller.now.number) c.open_node.result c.args.files.now
    c.open_node.new.files c.args.operation.now c.open_node.new.operation (open_into (request c.args.operation.now) state place c.args.path.now c.args.mode found)) (sym free)
    (slots_after g.met.A.Asker.transitive (λ r at. maps.insert (follows c.args.files.now) (slot_place r.client c.args.slot) r.number) (λ r at above item. opened_at r state (slot_place r.client c.args.slot) c.args.mode at item)
    c.args.operation.now c.walk.new.operation c.open_node.new.operation c.args.files.now c.open_node.new.files walk _ _ _ c.open_node.result
    (to_found c.args.files.now.nodes walk c.in-Found.object c.in_ok-stop.field-0 c.in-Found.is c.in_ok-stop.ensures.0)
    c.in_ok-stop.ensures.1 c.open_node.ensures)
