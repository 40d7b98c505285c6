use Rattle.std.proofs.Common.{false, refl, subst}
use Rattle.managed.specs.Seen.{IsAcknowledged}
use Rattle.managed_run.specs.Administering.{Holding, seen_of}
use Rattle.managed_run.proofs.Administering.{acknowledged_seen}
use Rattle.managed_run.proofs.held.HeldManaged.acknowledge.Goals as goal

pub returns-clause-acknowledged : goal.returns-clause-acknowledged
returns-clause-acknowledged g c =
    let decides = g.D.Decider.decides in
    let old : Holding g.row.C.Denot g.row.D.Denot g.row.C-Call.Denot g.row.C-Reply.Denot = record { site = c.self.inside.station.now; admin = c.self.inside.admin } in
    let new : Holding g.row.C.Denot g.row.D.Denot g.row.C-Call.Denot g.row.C-Reply.Denot = record { site = c.self.inside.station.now; admin = c.acknowledge.new.admin } in
    let told = c.acknowledge.ensures in
    subst (λ (h : Holding g.row.C.Denot g.row.D.Denot g.row.C-Call.Denot g.row.C-Reply.Denot). IsAcknowledged false (seen_of decides h) (seen_of decides new) c.acknowledge.result) c.self.view_is (acknowledged_seen decides false old new c.acknowledge.result told.acknowledged refl)
