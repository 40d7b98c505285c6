use Rattle.example_board.specs.Boards.{BoardView}
use Rattle.example_board.proofs.StepLemmas.{safe_posted}
use Rattle.example_board.proofs.board.Board.set_posted.Goals as goal

pub invariant_of-self : goal.invariant_of-self
invariant_of-self g c = c.self.invariant

pub returns-clause-safe : goal.returns-clause-safe
returns-clause-safe g c = λ d kept.
    let shown : BoardView = record { opening = c.self.inside.opening; posted = c.self.inside.posted; rights = c.self.inside.grants } in
    safe_posted d shown c.args.posted (rw (← c.self.view_is) at kept)
