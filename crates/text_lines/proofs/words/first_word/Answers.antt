use Rattle.text_lines.proofs.LineLemmas.{word_cut}
use Rattle.text_lines.proofs.words.first_word.Goals as goal

pub returns : goal.returns
returns c = rw (c.split_at.ensures.front, c.split_at-2.ensures.back, c.min.ensures) (word_cut c.args.bytes.now c.word_length-length.result c.requires c.word_length-length.ensures.value)
