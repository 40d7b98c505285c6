use Rattle.process_store.specs.Laws.{safe_is}
use Rattle.process_store.proofs.Linking.{counted_kept, safe_kept}
use Rattle.process_manager.proofs.process_core.ProcessCoreCore.revise.Goals as goal

pub revise-requires-clause-fit : goal.revise-requires-clause-fit
revise-requires-clause-fit g c = (safe_is (g.D.Decider.decides c.args.decider.now) _ (rw (← c.self.view_is, ← c.processes.view_is) at c.requires.fits)).rights

pub invariant_of-processes : goal.invariant_of-processes
invariant_of-processes g c = counted_kept _ _ c.revise.new.self c.processes.invariant c.revise.ensures.rule c.revise.ensures.class c.revise.ensures.claims

pub returns-clause-fits : goal.returns-clause-fits
returns-clause-fits g c =
    safe_kept (g.D.Decider.decides c.args.decider.now) _ c.revise.new.self (rw (← c.self.view_is, ← c.processes.view_is) at c.requires.fits) c.revise.ensures.rule c.revise.ensures.class c.revise.ensures.claims c.revise.ensures.fit
