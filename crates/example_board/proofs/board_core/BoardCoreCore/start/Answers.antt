use Rattle.retained_rights.proofs.StepLemmas.{step_kept}
use Rattle.example_board.specs.Laws.{safe_is}
use Rattle.example_board.proofs.StepLemmas.{safe_kept}
use Rattle.example_board.proofs.board_core.BoardCoreCore.start.Goals as goal

pub start-requires-clause-fit : goal.start-requires-clause-fit
start-requires-clause-fit g c = (safe_is (g.D.Decider.decides c.args.decider.now) _ (rw (← c.self.view_is, ← c.board.view_is) at c.requires.fits)).rights

pub invariant_of-board : goal.invariant_of-board
invariant_of-board g c = step_kept c.board.invariant c.start.new.self c.start.ensures.rule c.start.ensures.class c.start.ensures.claims

pub returns-clause-fits : goal.returns-clause-fits
returns-clause-fits g c =
    safe_kept (g.D.Decider.decides c.args.decider.now) _ c.start.new.self (rw (← c.self.view_is, ← c.board.view_is) at c.requires.fits) c.start.ensures.rule c.start.ensures.class c.start.ensures.claims c.start.ensures.fit
