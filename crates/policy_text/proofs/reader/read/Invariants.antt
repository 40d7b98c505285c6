use Rattle.std.proofs.Common.{length}
use Rattle.policy_text.proofs.ReadingLemmas.{IsBelow}
use Rattle.policy_text.proofs.reader.read.Given as goal

abbrev pub invariant-lines : goal.invariant-lines
invariant-lines l = IsBelow l.reader l.lines l.fn.bytes

abbrev pub decreases-lines : goal.decreases-lines
decreases-lines l = length l.lines
