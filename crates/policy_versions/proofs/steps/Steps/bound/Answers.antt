use Rattle.std.proofs.Common.{arith}
use Rattle.policy_versions.proofs.StepLemmas.{bound_more}
use Rattle.policy_versions.proofs.steps.Steps.bound.Goals as goal

pub returns : goal.returns
returns c = record {
  own = bound_more _ _ _ (omega (arith, c.max.ensures)) (omega (arith, c.max.ensures, c.bound.ensures.within, c.bound-2.ensures.within)) c.bound.ensures;
  object = bound_more _ _ _ (omega (arith, c.max.ensures)) (omega (arith, c.max.ensures, c.bound.ensures.within, c.bound-2.ensures.within)) c.bound-2.ensures;
}
