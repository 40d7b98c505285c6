use Rattle.std.proofs.Common.{false}
use Rattle.managed.proofs.SeenLemmas.{acknowledged_seen}
use Rattle.managed.proofs.administered.PlainManaged.acknowledge.Goals as goal

pub returns-clause-acknowledged : goal.returns-clause-acknowledged
returns-clause-acknowledged g c =
    let told = c.acknowledge.ensures in
    acknowledged_seen g.D.Decider.decides g.C.Core.class g.C.Core.pair_of g.C.Core.opening g.C.Core.state g.C.Core.follows false c.args.self.now c.acknowledge.new.self c.acknowledge.result
    told.same told.answer told.post told.shown told.tries told.history
