use Rattle.std.proofs.Common.{length, ap, arith, ◌∙◌}
use Rattle.session_text.proofs.SessionLemmas.{few_clients}
use Rattle.threaded_session.specs.declared.plan.Plan.{Plan}
use Rattle.flaskd_run.proofs.PlanLemmas.{plan_may, plan_of, session_rises, log_by}
use Rattle.flaskd_run.proofs.threads.run_to_end.Goals as goal

pub overflow_cast-plan : goal.overflow_cast-plan
overflow_cast-plan g c = omega (arith, few_clients c.args.session c.requires.session, c.len.ensures ∙ ap length c.in_ok-openings.ensures.clients_are)

pub run_plan-requires-after_bounds : goal.run_plan-requires-after_bounds
run_plan-requires-after_bounds g c κs within =
    let parts = c.in_ok-openings.ensures in
    plan_may (g.D.Decider.decides c.args.decider.now) c.args.session (record { openings = c.in_ok-openings.field-0.openings; clients = c.len.result; lines = c.in_ok-openings.field-0.lines })
    parts.openings_are (c.len.ensures ∙ ap length parts.clients_are) parts.lines_are c.requires.session c.requires.openings
    (rw (← parts.lines_are) (omega (arith, c.in_ok-openings.field-0.lines.small))) c.requires.known

pub returns-clause-ended : goal.returns-clause-ended
returns-clause-ended g c =
    let parts = c.in_ok-openings.ensures in
    let plan : Plan = record { openings = c.in_ok-openings.field-0.openings; clients = c.len.result; lines = c.in_ok-openings.field-0.lines } in
    record {
      policy_is = parts.policy_is;
      clients_are = parts.clients_are;
      audit_is = parts.audit_is;
      of_run = c.in_ok-closed.ensures.of_run c.args.session (plan_of c.args.session plan parts.openings_are (c.len.ensures ∙ ap length parts.clients_are) parts.lines_are);
    }

pub returns-clause-log : goal.returns-clause-log
returns-clause-log g c =
    let parts = c.in_ok-openings.ensures in
    let plan : Plan = record { openings = c.in_ok-openings.field-0.openings; clients = c.len.result; lines = c.in_ok-openings.field-0.lines } in
    log_by c.args.session c.parts.result.now c.args.contexts.now _ _ _ _ (c.parts.ensures.parts ∙ parts.policy_is)
    (rw parts.audit_is at (c.in_ok-closed.ensures.log c.args.session (plan_of c.args.session plan parts.openings_are (c.len.ensures ∙ ap length parts.clients_are) parts.lines_are)
    (session_rises c.args.session c.requires.session)))
