use Rattle.std.proofs.Common.{◌≡◌, ◌≤◌, ◌-◌, length}
use Rattle.policy_versions.specs.Users.{HasFront}
use Rattle.policy_versions.specs.Founds.{AllLed, AreFollowed}
use Rattle.policy_versions.proofs.found.Found.follow.Given as goal

abbrev pub invariant-places : goal.invariant-places
invariant-places l = record {
  rows : l.self.rows ≡ l.initial.self.rows;
  front : HasFront l.self.places l.initial.self.places;
  led : AllLed l.users l.steps.own l.steps.object l.initial.self.places l.self.places;
  below : l.at ≤ length l.self.places;
  followed : AreFollowed l.users l.steps.own l.steps.object l.self.places l.at;
}

abbrev pub decreases-places : goal.decreases-places
decreases-places l = 4095 - l.at
