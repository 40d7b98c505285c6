use Rattle.std.proofs.Common.{false}
use Rattle.admin_walk.proofs.Asking.{asked_all}
use Rattle.admin_walk.proofs.lines.acknowledge.Goals as goal

pub returns-clause-acted : goal.returns-clause-acted
returns-clause-acted g c =
    asked_all g.D.Decider.decides g.M.Managed.seen false _ _ g.M.Managed.same c.args.changes.now c.ack_all.new.self _ c.ack_all.new.said c.ack_all.result c.requires.ready (λ given step. step) c.ack_all.ensures

pub returns-clause-same : goal.returns-clause-same
returns-clause-same g c = c.ack_all.ensures.same_are
