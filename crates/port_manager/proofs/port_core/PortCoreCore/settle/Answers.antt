use Rattle.retained_rights.proofs.StepLemmas.{step_kept}
use Rattle.port_store.specs.Laws.{safe_is}
use Rattle.port_store.proofs.StepLemmas.{safe_kept}
use Rattle.port_manager.proofs.port_core.PortCoreCore.settle.Goals as goal

pub invariant_of-ports : goal.invariant_of-ports
invariant_of-ports g c = step_kept c.ports.invariant c.settle.new.self c.settle.ensures.rule c.settle.ensures.class c.settle.ensures.claims

pub returns-clause-fits : goal.returns-clause-fits
returns-clause-fits g c = λ d fits.
    let safe = rw (← c.self.view_is, ← c.ports.view_is) at fits in
    safe_kept d _ c.settle.new.self safe c.settle.ensures.rule c.settle.ensures.class c.settle.ensures.claims (c.settle.ensures.fit d (safe_is d _ safe).rights)
