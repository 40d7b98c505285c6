use Rattle.std.proofs.Common.{Some}
use Rattle.access_vectors.specs.Phases.{number_of}
use Rattle.manager_history.specs.Histories.{greatest_forced}
use Rattle.managed.proofs.NamedLemmas.{named_set, newest_named}
use Rattle.managed.proofs.plain.Plain.begin.Goals as goal

pub invariant_of-self : goal.invariant_of-self
invariant_of-self g c =
    let kept = c.self.invariant in
    let keeper = c.self.inside.keeper in (
      rw (c.enter.ensures, c.number-number.ensures, c.phase.ensures)
          (named_set keeper.phase (greatest_forced keeper.history) c.self.inside.passes c.args.client (Some (number_of keeper.phase)) kept.0 (newest_named keeper.phase (greatest_forced keeper.history))),
      kept.1,
      kept.2,
    )
