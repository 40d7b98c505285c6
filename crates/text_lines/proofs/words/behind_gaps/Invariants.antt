use Rattle.std.proofs.Common.{◌≡◌, length}
use Rattle.text_lines.specs.Lines.{words_of}
use Rattle.text_lines.proofs.words.behind_gaps.Given as goal

abbrev pub invariant-gaps : goal.invariant-gaps
invariant-gaps l = words_of l.rest ≡ words_of l.fn.bytes

abbrev pub decreases-gaps : goal.decreases-gaps
decreases-gaps l = length l.rest
