use Rattle.std.proofs.Common.{◌∙◌, sym, ap, arith}
use Rattle.text_lines.specs.Lines
use Rattle.text_lines.proofs.LineLemmas.{said_none, said_comment, said_other}
use Rattle.text_lines.proofs.line.said_words.Goals as goal

pub returns-in-empty : goal.returns-in-empty
returns-in-empty c =
    c.none.ensures ∙ sym (said_none c.behind_gaps-rest.result.now (omega (arith, c.in-empty.len_below))) ∙ ap Lines.said_words c.behind_gaps-rest.ensures.words

pub returns-then-first-eq35 : goal.returns-then-first-eq35
returns-then-first-eq35 c =
    c.none-then-first-eq35.ensures
    ∙ sym (said_comment c.behind_gaps-rest.result.now c.behind_gaps-rest.ensures.begins (omega (arith, c.in-len1-up.len_at_least)) c.if-first-eq35.true)
    ∙ ap Lines.said_words c.behind_gaps-rest.ensures.words

pub returns-else-first-eq35 : goal.returns-else-first-eq35
returns-else-first-eq35 c =
    c.new.ensures
    ∙ sym (said_other c.behind_gaps-rest.result.now c.behind_gaps-rest.ensures.begins (omega (arith, c.in-len1-up.len_at_least)) c.if-first-eq35.false)
    ∙ ap Lines.said_words c.behind_gaps-rest.ensures.words
