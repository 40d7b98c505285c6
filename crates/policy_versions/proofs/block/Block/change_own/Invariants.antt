use Rattle.std.proofs.Common.{◌≡◌, true, ◌-◌, ◌≤◌}
use Rattle.std.specs.Prelude.{◌&&◌, ◌==◌}
use Rattle.policy_versions.specs.Sets.{has_place}
use Rattle.policy_versions.specs.Changes.{AreChanged}
use Rattle.policy_versions.proofs.BlockLemmas.{below}
use Rattle.policy_versions.proofs.block.Block.change_own.Given as goal

abbrev pub invariant-sources : goal.invariant-sources
invariant-sources l = (l.s ≤ 128) × (l.self.is_drawn ≡ true) × AreChanged (below l.s (λ s t. has_place l.sources.words s && (s == t))) l.change l.initial.self.rows.items l.self.rows.items

abbrev pub decreases-sources : goal.decreases-sources
decreases-sources l = 128 - l.s
