use Rattle.std.proofs.Common.{◌≡◌, ◌+◌, ◌-◌, ◌≤◌}
use Rattle.slot_tables.specs.Words.{places}
use Rattle.retained_rights.proofs.SlotsLemmas.{IsRevised}
use Rattle.retained_rights.proofs.slots.revise_first.Given as goal

abbrev pub invariant-loop-place : goal.invariant-loop-place
invariant-loop-place g l =
    IsRevised (g.D.Decider.decides l.decider) l.ruled l.class l.fn.phase l.fn.store.held (places l.fn.store.words) l.store.held l.store.words l.from (l.k - l.left)
    × (l.left ≤ l.k) × (l.steps ≡ l.fn.steps + (l.k - l.left))

abbrev pub decreases-loop-place : goal.decreases-loop-place
decreases-loop-place g l = l.left
