use Rattle.std.proofs.Common.{◌∙◌, sym, refl}
use Rattle.text_lines.proofs.LineLemmas.{words_behind_gap, word_begins, none_begins}
use Rattle.text_lines.proofs.words.behind_gaps.Goals as goal

pub gaps-preserved : goal.gaps-preserved
gaps-preserved c =
    rw c.split_at.ensures.back (words_behind_gap c.gaps.rest.now _ (sym c.gaps-test.ensures) refl (sym c.if-is_word_byte.ensures) ∙ c.gaps.invariant)

pub returns-then-is_word_byte-clause-begins : goal.returns-then-is_word_byte-clause-begins
returns-then-is_word_byte-clause-begins c = word_begins _ (sym c.gaps-test.ensures) (sym c.if-is_word_byte.ensures)

pub returns-clause-begins : goal.returns-clause-begins
returns-clause-begins c = none_begins _ (sym c.gaps-test.ensures)
