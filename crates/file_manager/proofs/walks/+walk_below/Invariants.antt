use Rattle.std.proofs.Common.{length}
use Rattle.file_manager.proofs.walks.+walk_below.Given as goal

abbrev pub decreases-walk_below : goal.decreases-walk_below
decreases-walk_below g l = length l.names.now
