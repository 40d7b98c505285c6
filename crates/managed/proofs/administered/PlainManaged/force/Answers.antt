use Rattle.std.proofs.Common.{true}
use Rattle.managed.proofs.SeenLemmas.{acknowledged_seen}
use Rattle.managed.proofs.administered.PlainManaged.force.Goals as goal

pub returns-clause-forced : goal.returns-clause-forced
returns-clause-forced g c =
    let told = c.force.ensures in
    acknowledged_seen g.D.Decider.decides g.C.Core.class g.C.Core.pair_of g.C.Core.opening g.C.Core.state g.C.Core.follows true c.args.self.now c.force.new.self c.force.result
    told.same told.answer told.post told.shown told.tries told.history
