use Rattle.std.proofs.Common.{◌+◌, arith}
use Rattle.audit_log.specs.Texts.{line_text}
use Rattle.run_output.proofs.GatherLemmas.{front_of_all, offered_on, one_gathered, put_or_waits}
use Rattle.run_output.proofs.Outcomes.{on_err, on_err_always}
use Rattle.run_output.proofs.WritingLemmas.{front_so_far, last_failed}
use Rattle.run_output.proofs.auditing.write_client.Goals as goal

pub returns-in_err-put_text-clause-err : goal.returns-in_err-put_text-clause-err
returns-in_err-put_text-clause-err g c =
    on_err_always _ _ (front_of_all (line_text c.args.contexts.now c.args.name.now) c.args.lines.now c.lines.line-index _ _ (front_so_far _ _ _ _ c.lines.invariant.gathered))

pub returns-in_err-put_gathered-clause-err : goal.returns-in_err-put_gathered-clause-err
returns-in_err-put_gathered-clause-err g c =
    let more = one_gathered (line_text c.args.contexts.now c.args.name.now) c.args.lines.now c.lines.line-index c.line-item.result _ _ _ c.lines-test.true c.line-item.is c.lines.invariant.gathered in
    on_err_always _ _
    (front_of_all (line_text c.args.contexts.now c.args.name.now) c.args.lines.now (c.lines.line-index + 1) _ _ (last_failed _ _ _ _ _ more (rw c.in_ok-put_text.ensures.ok at c.in_err-put_gathered.ensures.err)))

pub lines-preserved : goal.lines-preserved
lines-preserved g c =
    let more = one_gathered (line_text c.args.contexts.now c.args.name.now) c.args.lines.now c.lines.line-index c.line-item.result _ _ _ c.lines-test.true c.line-item.is c.lines.invariant.gathered in
    let gone = put_or_waits _ _ _ _ _ _ c.in_ok-put_gathered.ensures.ok in
    record {
      gathered = offered_on _ _ _ _ _ _ more (rw c.in_ok-put_text.ensures.ok at gone);
      quiet = omega (arith, c.lines.invariant.quiet, c.in_ok-put_gathered.ensures.cause.later, c.in_ok-put_gathered.ensures.cause.quiet (λ is. cc));
    }

pub returns-clause-err : goal.returns-clause-err
returns-clause-err g c = on_err c.put_line.result _ _ (λ cut. front_of_all (line_text c.args.contexts.now c.args.name.now) c.args.lines.now c.lines.line-index _ _ (last_failed _ _ _ _ _ c.lines.invariant.gathered cut)) c.put_line.ensures.err
