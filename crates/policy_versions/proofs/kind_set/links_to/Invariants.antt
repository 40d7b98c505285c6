use Rattle.std.proofs.Common.{◌≡◌, ℕ, ◌<◌, ◌≤◌, min, get_or}
use Rattle.policy_versions.proofs.kind_set.links_to.Given as goal

abbrev pub invariant-places : goal.invariant-places
invariant-places l =
    ((k : ℕ) → k < l.place → get_or l.links k 0 ≡ min (get_or l.initial.links k 0) l.at)
    × ((k : ℕ) → l.place ≤ k → get_or l.links k 0 ≡ get_or l.initial.links k 0)
