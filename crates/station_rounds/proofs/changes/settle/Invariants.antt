use Rattle.station_rounds.proofs.changes.settle.Given as goal

abbrev pub invariant-tries : goal.invariant-tries
invariant-tries g l = g.M.Managed.same l.initial.held l.held
