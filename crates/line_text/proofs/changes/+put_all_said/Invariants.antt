use Rattle.std.proofs.Common.{length}
use Rattle.line_text.proofs.changes.+put_all_said.Given as goal

abbrev pub decreases-put_all_said : goal.decreases-put_all_said
decreases-put_all_said l = length l.said.now
