use Rattle.flow_query.proofs.ReachLemmas.{zeros}
use Rattle.flow_query.proofs.words.Words.none.Goals as goal

pub returns : goal.returns
returns c = λ t. zeros 128 t
