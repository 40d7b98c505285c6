use Rattle.policy_versions.specs.Sets.{has_place}
use Rattle.policy_versions.specs.Changes.{changed}
use Rattle.policy_versions.proofs.RowLemmas.{CellsBelow}
use Rattle.policy_versions.proofs.row.Row.change_each.Given as goal

abbrev pub invariant-cells : goal.invariant-cells
invariant-cells l = CellsBelow l.t (has_place l.targets.words) (changed l.change) l.initial.self.cells l.self.cells
