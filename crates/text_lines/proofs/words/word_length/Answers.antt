use Rattle.std.proofs.Common.{sym, arith}
use Rattle.std.proofs.lemmas.List.Sums.{position_or_len_is}
use Rattle.text_lines.specs.Lines.{is_gap}
use Rattle.text_lines.proofs.LineLemmas.{begins_filled, begins_some}
use Rattle.text_lines.proofs.words.word_length.Goals as goal

pub bytes-init : goal.bytes-init
bytes-init c = record {
  within = begins_some c.args.bytes.now c.requires;
  word = λ k first. begins_filled c.args.bytes.now k c.requires first;
}

pub returns-then-is_gap-clause-value : goal.returns-then-is_gap-clause-value
returns-then-is_gap-clause-value c =
    sym (position_or_len_is is_gap c.args.bytes.now c.bytes.at 0 c.bytes.invariant.within c.bytes.invariant.word (λ low. sym c.if-is_gap.ensures))

pub returns-clause-value : goal.returns-clause-value
returns-clause-value c =
    sym (position_or_len_is is_gap c.args.bytes.now c.bytes.at 0 c.bytes.invariant.within c.bytes.invariant.word (λ low. absurd (omega (arith, low, c.bytes-test.false))))
