use Rattle.std.proofs.Common.{None}
use Rattle.manager_history.specs.Histories.{greatest_forced}
use Rattle.managed.proofs.NamedLemmas.{named_set}
use Rattle.managed.proofs.plain.Plain.end.Goals as goal

pub invariant_of-self : goal.invariant_of-self
invariant_of-self g c =
    let kept = c.self.invariant in
    let keeper = c.self.inside.keeper in
    (rw c.leave.ensures (named_set keeper.phase (greatest_forced keeper.history) c.self.inside.passes c.args.client None kept.0 tt), kept.1, kept.2)
