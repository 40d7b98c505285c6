use Rattle.policy_versions.specs.Sets.{has_place}
use Rattle.policy_versions.proofs.RowLemmas.{MeetsNone}
use Rattle.policy_versions.proofs.row.Row.meets_some.Given as goal

abbrev pub invariant-cells : goal.invariant-cells
invariant-cells l = MeetsNone l.t (has_place l.targets.words) l.self.cells l.bits l.met
