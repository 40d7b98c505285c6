use Rattle.example_board.specs.Boards.{BoardView}
use Rattle.example_board.proofs.UseLemmas.{use_of_slot}
use Rattle.example_board.proofs.board.Board.slot_use.Goals as goal

pub returns : goal.returns
returns g c =
    let shown : BoardView = record { opening = c.self.inside.opening; posted = c.self.inside.posted; rights = c.self.inside.grants } in
    rw (← c.self.view_is) (use_of_slot shown c.args.client c.args.slot c.usable.result c.ranges.slot.fits c.usable.ensures.told)
