use Rattle.std.proofs.Common.{◌≡◌, List}
use Rattle.policy_versions.specs.Users.{HasFront}
use Rattle.policy_versions.specs.Steps.{IsFollowedBelow}
use Rattle.policy_versions.specs.Founds.{Leads, AllLed}
use Rattle.policy_versions.specs.declared.place.Place.{Place}
use Rattle.policy_versions.proofs.found.Found.follow_from.Given as goal

abbrev pub invariant-kinds : goal.invariant-kinds
invariant-kinds l = record {
  rows : l.self.rows ≡ l.initial.self.rows;
  front : HasFront l.self.places l.initial.self.places;
  led : (start : List Place) → Leads l.users l.steps.own l.steps.object start l.row l.s → AllLed l.users l.steps.own l.steps.object start l.initial.self.places → AllLed l.users l.steps.own l.steps.object start l.self.places;
  followed : IsFollowedBelow l.users l.steps.own l.steps.object l.self.places (record { row = l.row; kind = l.s }) l.k;
}
