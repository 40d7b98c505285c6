use Rattle.std.proofs.Common.{◌≤◌, length, arith}
use Rattle.policy_model.specs.Matching.{matches_source}
use Rattle.policy_versions.proofs.kinds.Kinds.sources.Goals as goal

pub returns-in-Named : goal.returns-in-Named
unfolding matches_source
returns-in-Named c = λ policy kinds place within. rw c.in-Named.is (c.named.ensures policy kinds place within)

pub returns-in-Any : goal.returns-in-Any
unfolding matches_source
returns-in-Any c = λ policy kinds place within. let few : length policy.kinds ≤ 128 = kinds.few in rw c.in-Any.is (kinds.every place (omega arith))

pub returns-in-Itself : goal.returns-in-Itself
unfolding matches_source
returns-in-Itself c = λ policy kinds place within. rw c.in-Itself.is (kinds.none place)
