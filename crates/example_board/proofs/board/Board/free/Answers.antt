use Rattle.access_vectors.specs.Stale.{slot_place}
use Rattle.retained_rights.proofs.StepLemmas.{step_freed}
use Rattle.example_board.specs.Boards.{BoardView}
use Rattle.example_board.specs.Laws.{safe_is}
use Rattle.example_board.proofs.StepLemmas.{safe_moved, state_freed}
use Rattle.example_board.proofs.board.Board.free.Goals as goal

pub invariant_of-self : goal.invariant_of-self
invariant_of-self g c =
    let drop = c.drop_slot-held.ensures in
    step_freed c.self.invariant c.drop_slot-held.new.self drop.rule drop.class (slot_place c.args.client c.args.slot) drop.claims

pub returns-clause-state : goal.returns-clause-state
returns-clause-state g c =
    let shown : BoardView = record { opening = c.self.inside.opening; posted = c.self.inside.posted; rights = c.self.inside.grants } in
    rw (← c.self.view_is) (state_freed shown c.drop_slot-held.new.self (slot_place c.args.client c.args.slot) c.drop_slot-held.ensures.claims)

pub returns-clause-safe : goal.returns-clause-safe
returns-clause-safe g c = λ d kept.
    let shown : BoardView = record { opening = c.self.inside.opening; posted = c.self.inside.posted; rights = c.self.inside.grants } in
    let drop = c.drop_slot-held.ensures in
    let safe = rw (← c.self.view_is) at kept in
    safe_moved d shown c.drop_slot-held.new.self safe (step_freed c.self.invariant c.drop_slot-held.new.self drop.rule drop.class (slot_place c.args.client c.args.slot) drop.claims)
    (drop.fit d (safe_is d shown safe).rights)
