use Rattle.retained_rights.proofs.StepLemmas.{step_kept}
use Rattle.example_board.specs.Laws.{safe_is}
use Rattle.example_board.proofs.StepLemmas.{safe_kept}
use Rattle.example_board.proofs.board_core.BoardCoreCore.settle.Goals as goal

pub invariant_of-board : goal.invariant_of-board
invariant_of-board g c = step_kept c.board.invariant c.settle.new.self c.settle.ensures.rule c.settle.ensures.class c.settle.ensures.claims

pub returns-clause-fits : goal.returns-clause-fits
returns-clause-fits g c = λ d fits.
    let safe = rw (← c.self.view_is, ← c.board.view_is) at fits in
    safe_kept d _ c.settle.new.self safe c.settle.ensures.rule c.settle.ensures.class c.settle.ensures.claims (c.settle.ensures.fit d (safe_is d _ safe).rights)
