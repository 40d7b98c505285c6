use Rattle.std.proofs.Common.{◌≡◌, take}
use Rattle.std.specs.List.{list_all}
use Rattle.text_lines.specs.Lines.{is_text_byte}
use Rattle.text_lines.proofs.lines.is_text.Given as goal

abbrev pub invariant-bytes : goal.invariant-bytes
invariant-bytes l = l.good ≡ list_all is_text_byte (take l.b-index l.bytes)
