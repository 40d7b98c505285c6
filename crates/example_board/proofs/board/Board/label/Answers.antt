use Rattle.example_board.specs.Boards.{BoardView}
use Rattle.example_board.specs.Laws.{safe_is}
use Rattle.example_board.proofs.board.Board.label.Goals as goal

pub returns-clause-known : goal.returns-clause-known
returns-clause-known g c = λ d kept.
    let shown : BoardView = record { opening = c.self.inside.opening; posted = c.self.inside.posted; rights = c.self.inside.grants } in
    (safe_is d shown (rw (← c.self.view_is) at kept)).known.label
