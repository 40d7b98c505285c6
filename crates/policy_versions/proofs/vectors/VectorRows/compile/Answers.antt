use Rattle.policy_model.specs.Deciding.{vector_of}
use Rattle.policy_versions.proofs.vectors.VectorRows.compile.Goals as goal

pub returns : goal.returns
unfolding vector_of
returns c = c.in_ok-table.ensures
