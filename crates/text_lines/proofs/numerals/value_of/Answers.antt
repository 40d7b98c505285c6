use Rattle.std.proofs.Common.{sym, ◌∙◌}
use Rattle.text_lines.proofs.NumeralLemmas.{value_more}
use Rattle.text_lines.proofs.numerals.value_of.Goals as goal

pub digits-preserved : goal.digits-preserved
digits-preserved c =
    let more = value_more _ _ _ _ c.digits.invariant.digits (sym c.is_digit.ensures ∙ c.if-not-is_digit.false) c.digits-test.true c.digits.invariant.so_far c.digits.invariant.small c.from.ensures in
    record { digits = more.0; so_far = more.1; small = more.2 }
