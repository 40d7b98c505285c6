use Rattle.file_store.specs.Laws.{safe_is}
use Rattle.file_store.proofs.Linking.{step_kept, safe_kept}
use Rattle.file_manager.proofs.file_core.FileCoreCore.settle.Goals as goal

pub invariant_of-files : goal.invariant_of-files
invariant_of-files g c = step_kept _ c.settle.new.self c.files.invariant c.settle.ensures.rule c.settle.ensures.class c.settle.ensures.claims

pub returns-clause-fits : goal.returns-clause-fits
returns-clause-fits g c = λ d fits.
    let safe = rw (← c.self.view_is, ← c.files.view_is) at fits in
    safe_kept d _ c.settle.new.self safe c.settle.ensures.rule c.settle.ensures.class c.settle.ensures.claims (c.settle.ensures.fit d (safe_is d _ safe).rights)
