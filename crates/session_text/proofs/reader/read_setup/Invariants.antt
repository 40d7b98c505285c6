use Rattle.std.proofs.Common.{◌≡◌, ◌≤◌, length}
use Rattle.session_text.specs.Reading.{in_setup, read_lines}
use Rattle.session_text.proofs.reader.read_setup.Given as goal

abbrev pub invariant-lines : goal.invariant-lines
invariant-lines l = record {
  so_far : read_lines (in_setup l.number l.setup) l.lines ≡ read_lines (in_setup l.fn.first l.fn.begun) l.fn.lines;
  counted : l.number ≤ 100001;
}

abbrev pub decreases-lines : goal.decreases-lines
decreases-lines l = length l.lines
