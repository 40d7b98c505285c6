use Rattle.std.proofs.Common.{◌≡◌, arith}
use Rattle.grant_print.specs.Printed.{grant_text}
use Rattle.run_output.proofs.PartLemmas.{part_more, list_front, list_cut}
use Rattle.run_output.proofs.Outcomes.{on_err_always}
use Rattle.run_output.proofs.WritingLemmas.{adds_more}
use Rattle.grant_print.proofs.grants.write_grants.Goals as goal

pub returns-in_err-put_grant-clause-err : goal.returns-in_err-put_grant-clause-err
returns-in_err-put_grant-clause-err g c =
    on_err_always _ _ (list_front (grant_text c.args.policy.now c.args.first.now) c.args.grants.now c.grants.grant-index _ _ c.grants.invariant.written)

pub returns-in_err-put_line-clause-err : goal.returns-in_err-put_line-clause-err
returns-in_err-put_line-clause-err g c =
    let out_is : c.put_grant.new.out ≡ grant_text c.args.policy.now c.args.first.now c.grant-item.result = rw c.clear.ensures at c.in_ok-put_grant.ensures in
    on_err_always _ _
    (list_cut (grant_text c.args.policy.now c.args.first.now) c.args.grants.now c.grants.grant-index c.grant-item.result _ _ _ c.grants-test.true c.grant-item.is
    c.grants.invariant.written (rw out_is at c.in_err-put_line.ensures.err))

pub grants-preserved : goal.grants-preserved
grants-preserved g c =
    let kept = c.grants.invariant in
    let out_is : c.put_grant.new.out ≡ grant_text c.args.policy.now c.args.first.now c.grant-item.result = rw c.clear.ensures at c.in_ok-put_grant.ensures in
    record {
      written = rw (part_more (grant_text c.args.policy.now c.args.first.now) c.args.grants.now c.grants.grant-index c.grant-item.result c.grants-test.true c.grant-item.is)
          (adds_more _ _ _ _ _ kept.written (rw out_is at c.in_ok-put_line.ensures.ok));
      quiet = omega (arith, kept.quiet, c.in_ok-put_line.ensures.cause.later, c.in_ok-put_line.ensures.cause.quiet (λ is. cc));
    }
