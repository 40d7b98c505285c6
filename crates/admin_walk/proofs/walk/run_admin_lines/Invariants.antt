use Rattle.std.proofs.Common.{drop}
use Rattle.admin_walk.proofs.Walking.{IsOnTheWay}
use Rattle.admin_walk.proofs.walk.run_admin_lines.Given as goal

abbrev pub invariant-lines : goal.invariant-lines
invariant-lines g l = IsOnTheWay g.D.Decider.decides g.M.Managed.seen g.M.Managed.same l.lines (drop l.line-index l.lines) l.fn.changes l.changes
