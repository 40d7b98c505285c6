use Rattle.std.proofs.Common.{◌≡◌, ◌+◌, length}
use Rattle.session_forms.proofs.parts.Parts.count.Given as goal

abbrev pub invariant-loop-at : goal.invariant-loop-at
invariant-loop-at l = l.at + length l.parts ≡ length l.self
