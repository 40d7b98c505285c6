use Rattle.process_store.specs.Laws.{safe_is}
use Rattle.process_store.proofs.Linking.{counted_kept, safe_kept}
use Rattle.process_manager.proofs.process_core.ProcessCoreCore.settle.Goals as goal

pub invariant_of-processes : goal.invariant_of-processes
invariant_of-processes g c = counted_kept _ _ c.settle.new.self c.processes.invariant c.settle.ensures.rule c.settle.ensures.class c.settle.ensures.claims

pub returns-clause-fits : goal.returns-clause-fits
returns-clause-fits g c = λ d fits.
    let safe = rw (← c.self.view_is, ← c.processes.view_is) at fits in
    safe_kept d _ c.settle.new.self safe c.settle.ensures.rule c.settle.ensures.class c.settle.ensures.claims (c.settle.ensures.fit d (safe_is d _ safe).rights)
