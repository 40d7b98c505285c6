use Rattle.std.proofs.Common.{◌-◌}
use Rattle.retained_rights.proofs.SlotsLemmas.{IsMoved, IsSameAsker}
use Rattle.retained_rights.proofs.slots.move_all.Given as goal

abbrev pub invariant-loop-place : goal.invariant-loop-place
invariant-loop-place g l =
    IsMoved (g.A.Asker.decides l.fn.asker) l.ruled l.class l.phase l.object l.t l.number l.version l.fn.store.held l.store.held l.store.words l.store.pairs l.from
    × IsSameAsker (g.A.Asker.decides) (g.A.Asker.version) (g.A.Asker.keys) (g.A.Asker.same) l.fn.asker l.asker

abbrev pub decreases-loop-place : goal.decreases-loop-place
decreases-loop-place g l = 65536 - l.from
