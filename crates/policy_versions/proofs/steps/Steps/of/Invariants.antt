use Rattle.policy_versions.specs.Given.{given_at}
use Rattle.policy_versions.specs.Steps.{TakesVersions, AreDue}
use Rattle.policy_versions.proofs.steps.Steps.of.Given as goal

abbrev pub invariant-versions : goal.invariant-versions
invariant-versions l = record {
  takes : TakesVersions (given_at l.given) l.present l.version l.steps.own l.steps.object;
  due : AreDue (given_at l.given) l.versions l.present l.steps.own l.steps.object;
}
