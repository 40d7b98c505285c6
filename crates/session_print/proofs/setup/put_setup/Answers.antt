use Rattle.std.proofs.Common.{◌≡◌, ◌∙◌, ap}
use Rattle.policy_model.specs.declared.policy.PolicyParts.{PolicyParts}
use Rattle.text_print.proofs.FrontLaws.{front_behind, on_err, err_behind}
use Rattle.session_print.proofs.PrintedLaws.{setup_from}
use Rattle.session_print.proofs.setup.put_setup.Goals as goal

pub returns-clause-ok : goal.returns-clause-ok
returns-clause-ok c =
    let contexts : c.as_slice-contexts.result.now ≡ c.args.session.now.policy.contexts = c.as_slice-contexts.ensures ∙ ap (λ (policy : PolicyParts). policy.contexts) c.parts.ensures.parts in
    rw (
      setup_from c.args.out.now c.args.session.now,
      ← contexts,
      ← c.in_ok-put_initial.ensures.ok,
      ← c.in_ok-put_initial-2.ensures.ok,
      ← c.as_slice.ensures,
      ← c.in_ok-put_ports.ensures.ok,
      ← c.in_ok-put_audit.ensures.ok,
      ← c.as_slice-2.ensures,
      ← c.in_ok-put_nodes.ensures.ok,
      ← c.as_slice-3.ensures,
    )
    c.put_clients.ensures.ok

pub returns-in_err-put_audit-clause-err : goal.returns-in_err-put_audit-clause-err
returns-in_err-put_audit-clause-err c =
    on_err c.from_residual-in_err-put_audit.result (front_behind _ _ _ _ c.in_ok-put_initial.ensures.ok (front_behind _ _ _ _ c.in_ok-put_initial-2.ensures.ok (front_behind _ _ _ _ c.in_ok-put_ports.ensures.ok c.in_err-put_audit.ensures.err)))

pub returns-in_err-put_nodes-clause-err : goal.returns-in_err-put_nodes-clause-err
returns-in_err-put_nodes-clause-err c =
    on_err c.from_residual-in_err-put_nodes.result (front_behind _ _ _ _ c.in_ok-put_initial.ensures.ok (front_behind _ _ _ _ c.in_ok-put_initial-2.ensures.ok (front_behind _ _ _ _ c.in_ok-put_ports.ensures.ok (front_behind _ _ _ _ c.in_ok-put_audit.ensures.ok c.in_err-put_nodes.ensures.err))))

pub returns-clause-err : goal.returns-clause-err
returns-clause-err c =
    err_behind c.put_clients.result _ _ _ _ c.in_ok-put_initial.ensures.ok (err_behind c.put_clients.result _ _ _ _ c.in_ok-put_initial-2.ensures.ok (err_behind c.put_clients.result _ _ _ _ c.in_ok-put_ports.ensures.ok (err_behind c.put_clients.result _ _ _ _ c.in_ok-put_audit.ensures.ok (err_behind c.put_clients.result _ _ _ _ c.in_ok-put_nodes.ensures.ok c.put_clients.ensures.err))))
