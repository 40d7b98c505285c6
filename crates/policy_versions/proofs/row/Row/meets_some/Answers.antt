use Rattle.std.proofs.Common.{arith}
use Rattle.std.proofs.lemmas.Bool.Decides.{nat_tests}
use Rattle.policy_versions.specs.Sets.{has_place}
use Rattle.policy_versions.proofs.RowLemmas.{meets_more}
use Rattle.policy_versions.proofs.row.Row.meets_some.Goals as goal
use Rattle.policy_versions.proofs.row.Row.meets_some.Goals.{then-targets-t-eq0, else-targets-t-eq0}

pub cells-preserved : goal.cells-preserved
cells-preserved c =
    meets_more c.cells.t (has_place c.args.targets.now.words) c.args.self.now.cells c.args.bits c.cells.met c.if-targets-t-eq0.met
    (λ has. elim c.if-targets-t-eq0.branch [ then-targets-t-eq0 w ↦ grind (arith, nat_tests, has) | else-targets-t-eq0 w ↦ grind (arith, nat_tests, has) ])
    c.cells.invariant
