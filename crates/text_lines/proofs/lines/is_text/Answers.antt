use Rattle.std.proofs.Common.{sym}
use Rattle.std.proofs.lemmas.List.Folds.{list_all_more}
use Rattle.text_lines.specs.Lines.{is_text_byte}
use Rattle.text_lines.proofs.lines.is_text.Goals as goal

pub bytes-preserved : goal.bytes-preserved
bytes-preserved c =
    rw (c.bytes.invariant, c.is_text_byte-good.ensures)
    (sym (list_all_more is_text_byte c.args.bytes.now c.bytes.b-index 0 c.bytes-test.true))
