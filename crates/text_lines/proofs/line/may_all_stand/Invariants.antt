use Rattle.std.proofs.Common.{◌≡◌, take}
use Rattle.std.specs.List.{list_all}
use Rattle.text_lines.specs.Lines.{may_stand}
use Rattle.text_lines.proofs.line.may_all_stand.Given as goal

abbrev pub invariant-bytes : goal.invariant-bytes
invariant-bytes l = l.good ≡ list_all may_stand (take l.b-index l.line)
