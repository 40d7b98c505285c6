use Rattle.managed.proofs.SeenLemmas.{noticed_seen}
use Rattle.managed.proofs.administered.PlainManaged.notify.Goals as goal

pub returns-clause-notified : goal.returns-clause-notified
returns-clause-notified g c =
    let told = c.notify.ensures in
    noticed_seen g.D.Decider.decides g.C.Core.class g.C.Core.pair_of g.C.Core.opening g.C.Core.state g.C.Core.follows c.args.self.now c.notify.new.self c.notify.result c.args.ver
    told.same told.refusals told.allowed told.number told.post told.added told.as_before
