use Rattle.access_vectors.specs.NoSlots.{now_following-none}
use Rattle.protocol_tests.proofs.histories.ReaderCore.revise.Goals as goal

pub returns-clause-follows : goal.returns-clause-follows
returns-clause-follows g c = now_following-none _ _
