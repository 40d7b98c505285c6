use Rattle.retained_rights.proofs.SlotsLemmas.{dropped_step, dropped_all}
use Rattle.retained_rights.proofs.slots.drop_all.Goals as goal

pub loop-place-preserved : goal.loop-place-preserved
loop-place-preserved c =
    dropped_step c.loop-place.invariant c.free.new.self.held c.free.new.self.words c.in-Some.place c.in-Some.ensures.0 c.free.ensures.held c.free.ensures.stale

pub returns-clause-held : goal.returns-clause-held
returns-clause-held c = dropped_all c.loop-place.invariant c.in_default.ensures
