use Rattle.text_lines.specs.Lines.{is_line_end}
use Rattle.text_lines.proofs.LineLemmas.{first_position}
use Rattle.text_lines.proofs.line.line_end.Goals as goal

pub returns : goal.returns
returns c = first_position is_line_end c.args.bytes.now _ c.memchr.ensures
