use Rattle.manager_history.specs.Histories.{greatest_forced}
use Rattle.managed.proofs.NamedLemmas.{acting_named}
use Rattle.managed.proofs.plain.Plain.call.Goals as goal

pub call-requires-clause-named : goal.call-requires-clause-named
call-requires-clause-named g c =
    let keeper = c.self.inside.keeper in
    rw (rw (← c.self.view_is) at c.acting-number.ensures) (acting_named keeper.phase (greatest_forced keeper.history) c.self.inside.passes _ c.self.invariant.0)
