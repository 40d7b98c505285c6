use Rattle.std.proofs.Common.{true, refl, subst}
use Rattle.managed.specs.Seen.{IsAcknowledged}
use Rattle.managed_run.specs.Administering.{Holding, seen_of}
use Rattle.managed_run.proofs.Administering.{acknowledged_seen}
use Rattle.managed_run.proofs.held.HeldManaged.force.Goals as goal

pub returns-clause-forced : goal.returns-clause-forced
returns-clause-forced g c =
    let decides = g.D.Decider.decides in
    let old : Holding g.row.C.Denot g.row.D.Denot g.row.C-Call.Denot g.row.C-Reply.Denot = record { site = c.self.inside.station.now; admin = c.self.inside.admin } in
    let new : Holding g.row.C.Denot g.row.D.Denot g.row.C-Call.Denot g.row.C-Reply.Denot = record { site = c.self.inside.station.now; admin = c.acknowledge_force.new.admin } in
    let told = c.acknowledge_force.ensures in
    subst (λ (h : Holding g.row.C.Denot g.row.D.Denot g.row.C-Call.Denot g.row.C-Reply.Denot). IsAcknowledged true (seen_of decides h) (seen_of decides new) c.acknowledge_force.result) c.self.view_is (acknowledged_seen decides true old new c.acknowledge_force.result told.acknowledged refl)
