use Rattle.flow_query.proofs.ReachLemmas.{JoinedBelow}
use Rattle.flow_query.proofs.words.Words.join.Given as goal

abbrev pub invariant-targets : goal.invariant-targets
invariant-targets l = JoinedBelow l.t l.vectors l.perms l.initial.self.words l.self.words
