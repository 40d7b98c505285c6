use Rattle.policy_versions.specs.Vectors.{vector_at}
use Rattle.flow_query.proofs.ReachLemmas.{RowsBelow}
use Rattle.flow_query.proofs.words.Reach.join.Given as goal

abbrev pub invariant-sources : goal.invariant-sources
invariant-sources l = RowsBelow l.s (λ s t. vector_at l.vectors l.version s t l.class) l.bits l.initial.self.rows.items l.self.rows.items
