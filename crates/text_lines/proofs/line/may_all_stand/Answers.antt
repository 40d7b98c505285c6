use Rattle.std.proofs.Common.{sym}
use Rattle.std.proofs.lemmas.List.Folds.{list_all_more}
use Rattle.text_lines.specs.Lines.{may_stand}
use Rattle.text_lines.proofs.line.may_all_stand.Goals as goal

pub bytes-preserved : goal.bytes-preserved
bytes-preserved c =
    rw (c.bytes.invariant, c.may_stand-good.ensures)
    (sym (list_all_more may_stand c.args.line.now c.bytes.b-index 0 c.bytes-test.true))
