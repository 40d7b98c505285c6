use Rattle.std.proofs.Common.{◌≡◌, length}
use Rattle.policy_text.specs.Reading.{begun}
use Rattle.session_text.specs.Readers as part
use Rattle.session_text.specs.Reading.{read_lines}
use Rattle.session_text.proofs.reader.read_policy.Given as goal

abbrev pub invariant-lines : goal.invariant-lines
invariant-lines l = read_lines (part.Policy l.policy) l.lines ≡ read_lines (part.Policy begun) l.fn.lines

abbrev pub decreases-lines : goal.decreases-lines
decreases-lines l = length l.lines
