use Rattle.std.proofs.Common.{◌≡◌, ◌∙◌, ap}
use Rattle.policy_model.specs.declared.policy.PolicyParts.{PolicyParts}
use Rattle.text_print.proofs.FrontLaws.{err_behind}
use Rattle.session_print.proofs.PrintedLaws.{below_policy_from}
use Rattle.session_print.proofs.session.put_below_policy.Goals as goal

pub returns-clause-ok : goal.returns-clause-ok
returns-clause-ok c =
    let contexts : c.as_slice.result.now ≡ c.args.session.now.policy.contexts = c.as_slice.ensures ∙ ap (λ (policy : PolicyParts). policy.contexts) c.parts.ensures.parts in
    rw (
      below_policy_from c.args.out.now c.args.session.now,
      ← c.in_ok-extend.ensures.ok,
      ← c.in_ok-put_setup.ensures.ok,
      ← c.in_ok-extend-2.ensures.ok,
      ← contexts,
      ← c.as_slice-2.ensures,
      ← c.as_slice-3.ensures,
    )
    c.put_runs.ensures.ok

pub returns-clause-err : goal.returns-clause-err
returns-clause-err c =
    err_behind c.put_runs.result _ _ _ _ c.in_ok-extend.ensures.ok (err_behind c.put_runs.result _ _ _ _ c.in_ok-put_setup.ensures.ok (err_behind c.put_runs.result _ _ _ _ c.in_ok-extend-2.ensures.ok c.put_runs.ensures.err))
