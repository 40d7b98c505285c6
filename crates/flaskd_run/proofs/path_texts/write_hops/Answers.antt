use Rattle.std.proofs.Common.{◌≡◌, arith}
use Rattle.flaskd_run.specs.Paths.{hop_text}
use Rattle.run_output.proofs.PartLemmas.{part_more, list_front, list_cut}
use Rattle.run_output.proofs.Outcomes.{on_err_always}
use Rattle.run_output.proofs.WritingLemmas.{adds_more}
use Rattle.flaskd_run.proofs.path_texts.write_hops.Goals as goal

pub returns-in_err-put_hop-clause-err : goal.returns-in_err-put_hop-clause-err
returns-in_err-put_hop-clause-err g c =
    on_err_always _ _ (list_front (hop_text c.args.policy.now) c.args.hops.now c.hops.hop-index _ _ c.hops.invariant.written)

pub returns-in_err-put_line-clause-err : goal.returns-in_err-put_line-clause-err
returns-in_err-put_line-clause-err g c =
    let out_is : c.put_hop.new.out ≡ hop_text c.args.policy.now c.hop-item.result = rw c.clear.ensures at c.in_ok-put_hop.ensures in
    on_err_always _ _
    (list_cut (hop_text c.args.policy.now) c.args.hops.now c.hops.hop-index c.hop-item.result _ _ _ c.hops-test.true c.hop-item.is
    c.hops.invariant.written (rw out_is at c.in_err-put_line.ensures.err))

pub hops-preserved : goal.hops-preserved
hops-preserved g c =
    let kept = c.hops.invariant in
    let out_is : c.put_hop.new.out ≡ hop_text c.args.policy.now c.hop-item.result = rw c.clear.ensures at c.in_ok-put_hop.ensures in
    record {
      written = rw (part_more (hop_text c.args.policy.now) c.args.hops.now c.hops.hop-index c.hop-item.result c.hops-test.true c.hop-item.is)
          (adds_more _ _ _ _ _ kept.written (rw out_is at c.in_ok-put_line.ensures.ok));
      quiet = omega (arith, kept.quiet, c.in_ok-put_line.ensures.cause.later, c.in_ok-put_line.ensures.cause.quiet (λ is. cc));
    }
