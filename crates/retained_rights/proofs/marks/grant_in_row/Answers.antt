use Rattle.std.proofs.Common.{◌∙◌, sym, ap, arith}
use Rattle.slot_tables.specs.Words.{has_bit}
use Rattle.slot_tables.proofs.BitLemmas.{has_bit-zero}
use Rattle.retained_rights.proofs.MarkLemmas.{grant_found}
use Rattle.retained_rights.proofs.marks.grant_in_row.Goals as goal

pub returns-then-word-eq0 : goal.returns-then-word-eq0
returns-then-word-eq0 c = λ index below. ap (λ w. has_bit w index) c.if-word-eq0.true ∙ has_bit-zero index

pub returns : goal.returns
returns c = grant_found _ c.args.key c.args.word c.get.result c.requires (omega arith) (omega arith) (sym c.get.ensures.value)
