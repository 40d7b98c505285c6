use Rattle.std.proofs.Common.{◌∙◌, ap, arith}
use Rattle.std.specs.List.{flat_map}
use Rattle.std.proofs.Math.Seq.{take_all}
use Rattle.run_output.proofs.Outcomes.{on_err_always}
use Rattle.run_output.proofs.PartLemmas.{list_front, list_cut, part_more}
use Rattle.run_output.proofs.WritingLemmas.{adds_more}
use Rattle.parallel_print.specs.Parts.{text_in}
use Rattle.parallel_print.proofs.PartLemmas.{all_texts, text_at}
use Rattle.parallel_print.proofs.rounds.write_round.Goals as goal

pub returns-in_default-clause-err : goal.returns-in_default-clause-err
returns-in_default-clause-err g c =
    let text = g.W.Wording.text c.args.wording.now in
    let whole = all_texts text c.as_slice-part-items.result.now ∙ ap (flat_map text) c.parts.invariant.items in
    rw whole at (list_front (text_in text) c.as_slice-part-items.result.now c.parts.part-index _ _ c.parts.invariant.written)

pub returns-in_err-put_line-clause-err : goal.returns-in_err-put_line-clause-err
returns-in_err-put_line-clause-err g c =
    let text = g.W.Wording.text c.args.wording.now in
    let parts = c.as_slice-part-items.result.now in
    let whole = all_texts text parts ∙ ap (flat_map text) c.parts.invariant.items in
    let said = text_at text parts c.parts.part-index c.part-item.result c.in-Ok.text c.parts.invariant.texts c.parts-test.true c.part-item.is c.in-Ok.is in
    on_err_always c.from_residual-in_err-put_line.result _
    (rw whole at (list_cut (text_in text) parts c.parts.part-index c.part-item.result _ _ _ c.parts-test.true c.part-item.is c.parts.invariant.written (rw said at c.in_err-put_line.ensures.err)))

pub parts-preserved : goal.parts-preserved
parts-preserved g c =
    let text = g.W.Wording.text c.args.wording.now in
    let parts = c.as_slice-part-items.result.now in
    let said = text_at text parts c.parts.part-index c.part-item.result c.in-Ok.text c.parts.invariant.texts c.parts-test.true c.part-item.is c.in-Ok.is in
    record {
      items = c.parts.invariant.items;
      texts = c.parts.invariant.texts;
      written = rw (part_more (text_in text) parts c.parts.part-index c.part-item.result c.parts-test.true c.part-item.is)
          (adds_more _ _ _ _ _ c.parts.invariant.written (rw said at c.in_ok-put_line.ensures.ok));
      quiet = omega (arith, c.parts.invariant.quiet, c.in_ok-put_line.ensures.cause.later, c.in_ok-put_line.ensures.cause.quiet (λ is. cc));
    }

pub returns-clause-ok : goal.returns-clause-ok
returns-clause-ok g c =
    let text = g.W.Wording.text c.args.wording.now in
    let parts = c.as_slice-part-items.result.now in
    let whole = all_texts text parts ∙ ap (flat_map text) c.parts.invariant.items in
    rw (take_all c.parts.part-index parts c.parts-test.false, whole) at c.parts.invariant.written
