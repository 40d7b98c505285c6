use Rattle.admin_walk.proofs.Giving.{updated}
use Rattle.admin_walk.proofs.lines.update.Goals as goal

pub returns-clause-acted : goal.returns-clause-acted
returns-clause-acted g c =
    updated g.M.Managed.seen _ c.args.k c.args.changes.now c.update_all.new.self c.update_all.new.left c.requires.ready (rw c.from.ensures at c.update_all.ensures.updated)
    c.update_all.ensures.many c.update_all.ensures.server c.update_all.ensures.reached
