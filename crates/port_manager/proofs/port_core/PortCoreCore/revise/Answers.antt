use Rattle.retained_rights.proofs.StepLemmas.{step_kept}
use Rattle.port_store.specs.Laws.{safe_is}
use Rattle.port_store.proofs.StepLemmas.{safe_kept}
use Rattle.port_manager.proofs.port_core.PortCoreCore.revise.Goals as goal

pub revise-requires-clause-fit : goal.revise-requires-clause-fit
revise-requires-clause-fit g c = (safe_is (g.D.Decider.decides c.args.decider.now) _ (rw (← c.self.view_is, ← c.ports.view_is) at c.requires.fits)).rights

pub invariant_of-ports : goal.invariant_of-ports
invariant_of-ports g c = step_kept c.ports.invariant c.revise.new.self c.revise.ensures.rule c.revise.ensures.class c.revise.ensures.claims

pub returns-clause-fits : goal.returns-clause-fits
returns-clause-fits g c =
    safe_kept (g.D.Decider.decides c.args.decider.now) _ c.revise.new.self (rw (← c.self.view_is, ← c.ports.view_is) at c.requires.fits) c.revise.ensures.rule c.revise.ensures.class c.revise.ensures.claims c.revise.ensures.fit
