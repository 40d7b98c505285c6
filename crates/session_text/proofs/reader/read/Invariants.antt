use Rattle.std.proofs.Common.{◌≡◌, ◌≤◌, length}
use Rattle.session_text.specs.Progress.{AreAbove}
use Rattle.session_text.specs.Readers as part
use Rattle.session_text.specs.Reading.{read_lines, session_of}
use Rattle.session_text.proofs.reader.read.Given as goal

abbrev pub invariant-lines : goal.invariant-lines
invariant-lines l = record {
  so_far : read_lines (part.Run (record { number = l.number; above = l.running })) l.lines ≡ session_of l.fn.bytes;
  counted : l.number ≤ 100001;
  above : AreAbove l.number l.running.lines;
}

abbrev pub decreases-lines : goal.decreases-lines
decreases-lines l = length l.lines
