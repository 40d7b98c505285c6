use Rattle.std.proofs.Common.{sym, ◌∙◌}
use Rattle.text_lines.proofs.LineLemmas.{text_stands}
use Rattle.text_lines.proofs.lines.Lines.of.Goals as goal

pub invariant_of-result : goal.invariant_of-result
invariant_of-result c = λ tested. text_stands c.args.bytes.now (sym c.is_text.ensures ∙ tested)
