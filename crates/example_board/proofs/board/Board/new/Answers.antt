use Rattle.example_board.proofs.StepLemmas.{step_opened, safe_opened, state_opened, follows_opened}
use Rattle.example_board.proofs.board.Board.new.Goals as goal

pub invariant_of-result : goal.invariant_of-result
invariant_of-result g c = step_opened c.args.opening c.new.result c.new.ensures

pub returns-clause-state : goal.returns-clause-state
returns-clause-state g c = state_opened c.args.opening c.new.result c.new.ensures

pub returns-clause-follows : goal.returns-clause-follows
returns-clause-follows g c = follows_opened c.args.opening c.new.result c.new.ensures

pub returns-clause-safe : goal.returns-clause-safe
returns-clause-safe g c = safe_opened c.args.opening c.new.result c.new.ensures
