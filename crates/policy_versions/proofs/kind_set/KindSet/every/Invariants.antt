use Rattle.std.proofs.Common.{◌≡◌, ℕ, ◌<◌, true}
use Rattle.policy_versions.specs.Sets.{has_place}
use Rattle.policy_versions.proofs.kind_set.KindSet.every.Given as goal

abbrev pub invariant-places : goal.invariant-places
invariant-places l = (place : ℕ) → place < l.place → has_place l.set.words place ≡ true
