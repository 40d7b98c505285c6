use Rattle.std.proofs.Common.{ap, not}
use Rattle.std.specs.Prelude.{◌==◌}
use Rattle.policy_versions.proofs.RowLemmas.{zeros, no_links}
use Rattle.policy_versions.proofs.kind_set.KindSet.none.Goals as goal

pub returns : goal.returns
returns c = λ place. ap (λ word. not (word == 0)) (zeros 128 place)

pub invariant_of-result : goal.invariant_of-result
invariant_of-result c = record { linked = no_links }
