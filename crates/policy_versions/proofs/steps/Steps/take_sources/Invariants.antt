use Rattle.std.proofs.Common.{ℕ, ◌<◌}
use Rattle.policy_versions.specs.Given.{given_at}
use Rattle.policy_versions.specs.Steps.{StayMarked, TakesSources, AreDue}
use Rattle.policy_versions.proofs.steps.Steps.take_sources.Given as goal

abbrev pub invariant-sources : goal.invariant-sources
invariant-sources l = record {
  own : StayMarked l.initial.self.own l.self.own;
  object : StayMarked l.initial.self.object l.self.object;
  takes : TakesSources (given_at l.given) l.present l.version l.s l.self.own l.self.object;
  due : (versions : ℕ) → l.version < versions → AreDue (given_at l.given) versions l.present l.initial.self.own l.initial.self.object → AreDue (given_at l.given) versions l.present l.self.own l.self.object;
}
