use Rattle.std.proofs.Common.{◌≡◌, ◌-◌, ℕ, true, length}
use Rattle.policy_versions.specs.Numbers.{has_place}
use Rattle.policy_versions.specs.Users.{HasFront}
use Rattle.policy_versions.proofs.ClosingLemmas.{IsGood}
use Rattle.policy_versions.proofs.closing.close.Given as goal

abbrev pub invariant-rounds : goal.invariant-rounds
invariant-rounds l = record {
  rows : l.found.rows ≡ l.initial.found.rows;
  front : HasFront l.found.places l.initial.found.places;
  good : (row kind : ℕ) → has_place l.found.places row kind ≡ true → IsGood l.policy l.users row kind;
}

abbrev pub decreases-rounds : goal.decreases-rounds
decreases-rounds l = 4095 - length l.found.places
