use Rattle.std.proofs.Common.{ℕ, IsTrue, get_or, ◌∙◌, sym, subst}
use Rattle.example_board.specs.Boards.{BoardView}
use Rattle.example_board.specs.Laws.{safe_is}
use Rattle.example_board.proofs.board.Board.sid.Goals as goal

pub returns-clause-known : goal.returns-clause-known
returns-clause-known g c = λ d kept.
    let shown : BoardView = record { opening = c.self.inside.opening; posted = c.self.inside.posted; rights = c.self.inside.grants } in
    let found = c.index-as_slice-from.result in
    subst (λ (sid : ℕ). IsTrue (d.known sid)) (sym (c.index-as_slice-from.is ∙ (λ i. get_or (c.as_slice.ensures i) (c.from.ensures i) found)))
    ((safe_is d shown (rw (← c.self.view_is) at kept)).known.clients c.args.client found (rw (← c.self.view_is) at c.requires))
