use Rattle.std.proofs.Common.{◌∙◌, sym}
use Rattle.text_lines.proofs.LineLemmas.{no_word}
use Rattle.text_lines.proofs.words.split_word.Goals as goal

pub returns-then-is_empty : goal.returns-then-is_empty
returns-then-is_empty c = sym c.behind_gaps-rest.ensures.words ∙ no_word _ (sym c.if-is_empty.ensures)
