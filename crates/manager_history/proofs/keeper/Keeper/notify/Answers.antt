use Rattle.std.proofs.Common.{◌<◌, length, vec_capacity, arith}
use Rattle.manager_history.proofs.Growing.{kept_notice}
use Rattle.manager_history.proofs.keeper.Keeper.notify.Goals as goal

pub invariant_of-self-2 : goal.invariant_of-self-2
invariant_of-self-2 g c =
    let entries = c.push_reserved.new.self in
    let roomy : length entries.items < vec_capacity entries
    = omega (arith, c.in-Ok.ensures.ok, c.in-Ok.ensures.len, c.push_reserved.ensures.len, c.push_reserved.ensures.capacity) in
    let kept = kept_notice _ _ _ _ _ _ _ c.self.invariant.0 c.in-Settled.is (omega arith) c.start.ensures.state c.start.ensures.opening
    (rw c.reserve.ensures.items at c.push_reserved.ensures.items) roomy in
    (kept, c.start.ensures.fits, c.in-Ok-start.ensures.pending)
