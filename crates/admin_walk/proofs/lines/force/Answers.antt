use Rattle.std.proofs.Common.{true}
use Rattle.admin_walk.proofs.Asking.{asked_all}
use Rattle.admin_walk.proofs.lines.force.Goals as goal

pub returns-clause-acted : goal.returns-clause-acted
returns-clause-acted g c =
    asked_all g.D.Decider.decides g.M.Managed.seen true _ _ g.M.Managed.same c.args.changes.now c.force_all.new.self _ c.force_all.new.said c.force_all.result c.requires.ready (λ given step. step) c.force_all.ensures

pub returns-clause-same : goal.returns-clause-same
returns-clause-same g c = c.force_all.ensures.same_are
