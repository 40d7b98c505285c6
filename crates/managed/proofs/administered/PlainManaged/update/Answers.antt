use Rattle.std.proofs.Common.{refl}
use Rattle.managed.proofs.SeenLemmas.{updated_seen}
use Rattle.managed.proofs.administered.PlainManaged.update.Goals as goal

pub returns-clause-updated : goal.returns-clause-updated
returns-clause-updated g c =
    let told = c.update.ensures in
    updated_seen g.D.Decider.decides g.C.Core.class g.C.Core.pair_of g.C.Core.opening g.C.Core.state g.C.Core.follows c.args.self.now c.update.new.self c.args.k c.update.result _
    told.same refl told.left told.post told.shown told.remaining told.tries told.history
