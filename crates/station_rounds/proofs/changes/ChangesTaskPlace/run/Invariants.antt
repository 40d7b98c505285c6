use Rattle.station_rounds.proofs.changes.ChangesTaskPlace.run.Given as goal

abbrev pub invariant-changes : goal.invariant-changes
invariant-changes g l = g.M.Managed.same l.initial.own.held l.own.held
