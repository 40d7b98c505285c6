use Rattle.text_print.proofs.FrontLaws.{front_behind, on_err, err_behind}
use Rattle.policy_print.proofs.PrintedLaws.{printed_from}
use Rattle.policy_print.proofs.policy.put_policy.Goals as goal

pub returns-clause-ok : goal.returns-clause-ok
returns-clause-ok c =
    rw (
      printed_from c.args.out.now c.args.policy.now,
      ← c.in_ok-extend.ensures.ok,
      ← c.as_slice.ensures,
      ← c.in_ok-put_kinds.ensures.ok,
      ← c.as_slice-2.ensures,
      ← c.in_ok-put_contexts.ensures.ok,
      ← c.as_slice-3.ensures,
      ← c.in_ok-put_attributes.ensures.ok,
      ← c.as_slice-4.ensures,
      ← c.in_ok-put_patterns.ensures.ok,
      ← c.as_slice-5.ensures,
      ← c.in_ok-put_patterns-2.ensures.ok,
      ← c.as_slice-6.ensures,
      ← c.in_ok-put_patterns-3.ensures.ok,
      ← c.as_slice-7.ensures,
    )
    c.put_versions.ensures.ok

pub returns-in_err-put_attributes-clause-err : goal.returns-in_err-put_attributes-clause-err
returns-in_err-put_attributes-clause-err c =
    on_err c.from_residual-in_err-put_attributes.result (front_behind _ _ _ _ c.in_ok-extend.ensures.ok (front_behind _ _ _ _ c.in_ok-put_kinds.ensures.ok (front_behind _ _ _ _ c.in_ok-put_contexts.ensures.ok c.in_err-put_attributes.ensures.err)))

pub returns-in_err-put_patterns-clause-err : goal.returns-in_err-put_patterns-clause-err
returns-in_err-put_patterns-clause-err c =
    on_err c.from_residual-in_err-put_patterns.result (front_behind _ _ _ _ c.in_ok-extend.ensures.ok (front_behind _ _ _ _ c.in_ok-put_kinds.ensures.ok (front_behind _ _ _ _ c.in_ok-put_contexts.ensures.ok (front_behind _ _ _ _ c.in_ok-put_attributes.ensures.ok c.in_err-put_patterns.ensures.err))))

pub returns-in_err-put_patterns-2-clause-err : goal.returns-in_err-put_patterns-2-clause-err
returns-in_err-put_patterns-2-clause-err c =
    on_err c.from_residual-in_err-put_patterns-2.result (front_behind _ _ _ _ c.in_ok-extend.ensures.ok (front_behind _ _ _ _ c.in_ok-put_kinds.ensures.ok (front_behind _ _ _ _ c.in_ok-put_contexts.ensures.ok (front_behind _ _ _ _ c.in_ok-put_attributes.ensures.ok (front_behind _ _ _ _ c.in_ok-put_patterns.ensures.ok c.in_err-put_patterns-2.ensures.err)))))

pub returns-in_err-put_patterns-3-clause-err : goal.returns-in_err-put_patterns-3-clause-err
returns-in_err-put_patterns-3-clause-err c =
    on_err c.from_residual-in_err-put_patterns-3.result (front_behind _ _ _ _ c.in_ok-extend.ensures.ok (front_behind _ _ _ _ c.in_ok-put_kinds.ensures.ok (front_behind _ _ _ _ c.in_ok-put_contexts.ensures.ok (front_behind _ _ _ _ c.in_ok-put_attributes.ensures.ok (front_behind _ _ _ _ c.in_ok-put_patterns.ensures.ok (front_behind _ _ _ _ c.in_ok-put_patterns-2.ensures.ok c.in_err-put_patterns-3.ensures.err))))))

pub returns-clause-err : goal.returns-clause-err
returns-clause-err c =
    err_behind c.put_versions.result _ _ _ _ c.in_ok-extend.ensures.ok (err_behind c.put_versions.result _ _ _ _ c.in_ok-put_kinds.ensures.ok (err_behind c.put_versions.result _ _ _ _ c.in_ok-put_contexts.ensures.ok (err_behind c.put_versions.result _ _ _ _ c.in_ok-put_attributes.ensures.ok (err_behind c.put_versions.result _ _ _ _ c.in_ok-put_patterns.ensures.ok (err_behind c.put_versions.result _ _ _ _ c.in_ok-put_patterns-2.ensures.ok (err_behind c.put_versions.result _ _ _ _ c.in_ok-put_patterns-3.ensures.ok c.put_versions.ensures.err))))))
