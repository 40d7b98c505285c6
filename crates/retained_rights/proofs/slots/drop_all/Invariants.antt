use Rattle.std.proofs.Common.{◌-◌}
use Rattle.retained_rights.proofs.SlotsLemmas.{IsDropped}
use Rattle.retained_rights.proofs.slots.drop_all.Given as goal

abbrev pub invariant-loop-place : goal.invariant-loop-place
invariant-loop-place l = IsDropped l.fn.store.held l.fn.store.words l.store.held l.store.words l.object l.from

abbrev pub decreases-loop-place : goal.decreases-loop-place
decreases-loop-place l = 65536 - l.from
