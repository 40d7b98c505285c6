use Rattle.std.proofs.Common.{length}
use Rattle.line_text.proofs.changes.+put_numerals.Given as goal

abbrev pub decreases-put_numerals : goal.decreases-put_numerals
decreases-put_numerals l = length l.numbers.now
