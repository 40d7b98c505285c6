use Rattle.std.proofs.Common.{refl}
use Rattle.policy_versions.proofs.RowLemmas.{zeros}
use Rattle.policy_versions.proofs.row.Row.empty.Goals as goal

pub returns : goal.returns
returns c = record { cells = λ t. zeros 128 t; blank = refl }
