use Rattle.file_store.specs.Laws.{safe_is}
use Rattle.file_store.proofs.Linking.{step_kept, safe_kept}
use Rattle.file_manager.proofs.file_core.FileCoreCore.start.Goals as goal

pub start-requires-clause-fit : goal.start-requires-clause-fit
start-requires-clause-fit g c = (safe_is (g.D.Decider.decides c.args.decider.now) _ (rw (← c.self.view_is, ← c.files.view_is) at c.requires.fits)).rights

pub invariant_of-files : goal.invariant_of-files
invariant_of-files g c = step_kept _ c.start.new.self c.files.invariant c.start.ensures.rule c.start.ensures.class c.start.ensures.claims

pub returns-clause-fits : goal.returns-clause-fits
returns-clause-fits g c =
    safe_kept (g.D.Decider.decides c.args.decider.now) _ c.start.new.self (rw (← c.self.view_is, ← c.files.view_is) at c.requires.fits) c.start.ensures.rule c.start.ensures.class c.start.ensures.claims c.start.ensures.fit
