use Rattle.std.proofs.Common.{refl, subst}
use Rattle.managed.specs.Seen.{IsUpdated}
use Rattle.managed_run.specs.Administering.{Holding, seen_of}
use Rattle.managed_run.proofs.Administering.{updated_seen}
use Rattle.managed_run.proofs.held.HeldManaged.update.Goals as goal

pub returns-clause-updated : goal.returns-clause-updated
returns-clause-updated g c =
    let decides = g.D.Decider.decides in
    let old : Holding g.row.C.Denot g.row.D.Denot g.row.C-Call.Denot g.row.C-Reply.Denot = record { site = c.self.inside.station.now; admin = c.self.inside.admin } in
    let new : Holding g.row.C.Denot g.row.D.Denot g.row.C-Call.Denot g.row.C-Reply.Denot = record { site = c.self.inside.station.now; admin = c.update_counted.new.admin } in
    let told = c.update_counted.ensures in
    subst (λ (h : Holding g.row.C.Denot g.row.D.Denot g.row.C-Call.Denot g.row.C-Reply.Denot). IsUpdated c.args.k (seen_of decides h) (seen_of decides new) c.update_counted.result) c.self.view_is (updated_seen decides old new c.args.k c.update_counted.result refl told.turned told.left.0 told.left.1)
