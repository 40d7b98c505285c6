use Rattle.policy_text.proofs.ReadingLemmas.{at_begin, below_line, fails_at, at_end}
use Rattle.policy_text.proofs.reader.read.Goals as goal

pub lines-init : goal.lines-init
lines-init c = rw (c.of-lines.ensures, c.new-reader.ensures) (at_begin c.args.bytes.now)

pub lines-preserved : goal.lines-preserved
lines-preserved c = below_line c.lines.reader c.read_line.new.self _ _ _ _ c.lines.invariant c.in-Some.ensures c.in-Ok.ensures.read

pub returns-in-Err : goal.returns-in-Err
returns-in-Err c = fails_at c.lines.reader _ _ _ _ c.in-Err.fault c.lines.invariant c.in-Some.ensures c.in-Err.ensures.read

pub returns-in-Ok-finish : goal.returns-in-Ok-finish
returns-in-Ok-finish c = rw (at_end c.lines.reader _ _ c.lines.invariant c.in_default.ensures.0) c.in-Ok-finish.ensures.0

pub returns : goal.returns
returns c = rw (at_end c.lines.reader _ _ c.lines.invariant c.in_default.ensures.0) c.in-Err-finish.ensures
