use Rattle.access_vectors.specs.NoSlots.{all_following-none}
use Rattle.protocol_tests.proofs.histories.ReaderCore.settle.Goals as goal

pub returns-in-Pending-clause-follows : goal.returns-in-Pending-clause-follows
returns-in-Pending-clause-follows c = all_following-none _
