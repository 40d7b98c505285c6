use Rattle.std.proofs.Common.{refl, subst}
use Rattle.managed.specs.Seen.{IsNotified}
use Rattle.managed_run.specs.Administering.{Holding, seen_of}
use Rattle.managed_run.proofs.Administering.{notified_seen}
use Rattle.managed_run.proofs.held.HeldManaged.notify.Goals as goal

pub returns-clause-notified : goal.returns-clause-notified
returns-clause-notified g c =
    let decides = g.D.Decider.decides in
    let old : Holding g.row.C.Denot g.row.D.Denot g.row.C-Call.Denot g.row.C-Reply.Denot = record { site = c.self.inside.station.now; admin = c.self.inside.admin } in
    let new : Holding g.row.C.Denot g.row.D.Denot g.row.C-Call.Denot g.row.C-Reply.Denot = record { site = c.self.inside.station.now; admin = c.notify.new.admin } in
    let told = c.notify.ensures in
    subst (λ (h : Holding g.row.C.Denot g.row.D.Denot g.row.C-Call.Denot g.row.C-Reply.Denot). IsNotified c.args.ver (seen_of decides h) (seen_of decides new) c.notify.result) c.self.view_is (notified_seen decides old new c.notify.result c.args.ver refl told.ok told.refused told.err)
