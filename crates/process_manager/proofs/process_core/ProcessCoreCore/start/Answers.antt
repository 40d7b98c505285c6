use Rattle.process_store.specs.Laws.{safe_is}
use Rattle.process_store.proofs.Linking.{counted_kept, safe_kept}
use Rattle.process_manager.proofs.process_core.ProcessCoreCore.start.Goals as goal

pub start-requires-clause-fit : goal.start-requires-clause-fit
start-requires-clause-fit g c = (safe_is (g.D.Decider.decides c.args.decider.now) _ (rw (← c.self.view_is, ← c.processes.view_is) at c.requires.fits)).rights

pub invariant_of-processes : goal.invariant_of-processes
invariant_of-processes g c = counted_kept _ _ c.start.new.self c.processes.invariant c.start.ensures.rule c.start.ensures.class c.start.ensures.claims

pub returns-clause-fits : goal.returns-clause-fits
returns-clause-fits g c =
    safe_kept (g.D.Decider.decides c.args.decider.now) _ c.start.new.self (rw (← c.self.view_is, ← c.processes.view_is) at c.requires.fits) c.start.ensures.rule c.start.ensures.class c.start.ensures.claims c.start.ensures.fit
