use Rattle.std.proofs.Common.{arith}
use Rattle.policy_versions.proofs.StepLemmas.{below_marked}
use Rattle.policy_versions.proofs.marks.Marks.mark.Goals as goal

pub invariant_of-self : goal.invariant_of-self
invariant_of-self c =
    below_marked _ _ _ _ _ _
    (omega (arith, c.max-self-inside.ensures))
    (omega (arith, c.max-self-inside.ensures, c.from.ensures, c.place.ensures.value))
    (omega (arith, c.max-self-inside.ensures, c.from.ensures, c.place.ensures.value, c.self.invariant.within, c.mark_cell.ensures.within))
    c.mark_cell.ensures.marks c.self.invariant
