use Rattle.std.proofs.Common.{◌≡◌, ◌+◌, ◌*◌, ◌≤◌, length}
use Rattle.policy_versions.specs.Changes.{AreBlank}
use Rattle.policy_versions.proofs.TableLemmas.{TellBelow}
use Rattle.policy_versions.proofs.table.Table.compile.Given as goal

abbrev pub invariant-versions : goal.invariant-versions
invariant-versions l =
    (length l.rows.items ≤ 128 + 640 * l.version-index)
    × (length l.firsts.items ≡ l.version-index)
    × TellBelow l.content l.policy l.rows.items l.firsts.items l.version-index
    × AreBlank l.rows.items
