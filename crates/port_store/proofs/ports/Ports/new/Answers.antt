use Rattle.port_store.proofs.NewLemmas.{step_opened, state_opened, follows_opened, safe_opened}
use Rattle.port_store.proofs.ports.Ports.new.Goals as goal

pub invariant_of-result : goal.invariant_of-result
invariant_of-result g c = step_opened c.args.opening c.new.result.items c.new.ensures.items c.new-2.result c.new-2.ensures

pub returns-clause-state : goal.returns-clause-state
returns-clause-state g c = state_opened c.args.opening c.new.result.items c.new.ensures.items c.new-2.result c.new-2.ensures

pub returns-clause-follows : goal.returns-clause-follows
returns-clause-follows g c = follows_opened c.args.opening c.new.result.items c.new.ensures.items c.new-2.result c.new-2.ensures

pub returns-clause-safe : goal.returns-clause-safe
returns-clause-safe g c = safe_opened c.args.opening c.new.result.items c.new.ensures.items c.new-2.result c.new-2.ensures
