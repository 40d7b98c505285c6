use Rattle.std.proofs.Common.{◌+◌, drop, subst, List}
use Rattle.std.proofs.Math.ListN.{drop_of_length-le}
use Rattle.session_text.specs.declared.session.RunLine.{RunLine}
use Rattle.admin_walk.proofs.Walking.{IsOnTheWay, left_at, at_start, one_more, all_run, run_short, on_err_always}
use Rattle.admin_walk.proofs.Explaining.{explained}
use Rattle.admin_walk.proofs.walk.run_admin_lines.Goals as goal

pub lines-init : goal.lines-init
lines-init g c = at_start g.D.Decider.decides g.M.Managed.seen g.M.Managed.same _ c.args.changes.now c.requires.told c.requires.settled g.met.M.Managed.reflexive

pub lines-preserved : goal.lines-preserved
lines-preserved g c =
    let at = left_at c.args.lines.now c.lines.line-index c.line-item.result c.lines-test.true c.line-item.is in
    one_more g.D.Decider.decides g.M.Managed.seen g.M.Managed.same c.args.lines.now (drop (c.lines.line-index + 1) c.args.lines.now) c.line-item.result c.args.changes.now c.lines.changes c.run_line.new.changes
    (subst (λ (left : List RunLine). IsOnTheWay g.D.Decider.decides g.M.Managed.seen g.M.Managed.same c.args.lines.now left c.args.changes.now c.lines.changes) at c.lines.invariant)
    c.in_ok-run_line.ensures.ok c.run_line.ensures.same g.met.M.Managed.transitive

pub returns-in_err-run_line-clause-err : goal.returns-in_err-run_line-clause-err
returns-in_err-run_line-clause-err g c =
    let at = left_at c.args.lines.now c.lines.line-index c.line-item.result c.lines-test.true c.line-item.is in
    on_err_always c.from_residual.result
    (run_short g.D.Decider.decides g.M.Managed.seen g.M.Managed.same c.args.lines.now (drop (c.lines.line-index + 1) c.args.lines.now) c.line-item.result c.args.changes.now c.lines.changes c.run_line.new.changes
    (subst (λ (left : List RunLine). IsOnTheWay g.D.Decider.decides g.M.Managed.seen g.M.Managed.same c.args.lines.now left c.args.changes.now c.lines.changes) at c.lines.invariant)
    c.in_err-run_line.ensures.err)

pub returns-clause-ok : goal.returns-clause-ok
returns-clause-ok g c =
    all_run g.D.Decider.decides g.M.Managed.seen g.M.Managed.same c.args.lines.now (drop c.lines.line-index c.args.lines.now) c.args.changes.now c.lines.changes c.lines.invariant
    (drop_of_length-le c.args.lines.now c.lines-test.false)

pub returns-clause-explained : goal.returns-clause-explained
returns-clause-explained g c =
    explained g.M.Managed.seen _ c.args.lines.now c.args.changes.now c.lines.changes c.requires.settled
    (all_run g.D.Decider.decides g.M.Managed.seen g.M.Managed.same c.args.lines.now (drop c.lines.line-index c.args.lines.now) c.args.changes.now c.lines.changes c.lines.invariant
    (drop_of_length-le c.args.lines.now c.lines-test.false))
