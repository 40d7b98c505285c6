use Rattle.std.proofs.Common.{◌≡◌, ◌<◌, ◌*◌, ℕ, length, take}
use Rattle.policy_versions.specs.Numbers.{is_marked, has_place}
use Rattle.policy_versions.proofs.found.marks_of.Given as goal

abbrev pub invariant-places : goal.invariant-places
invariant-places l = record {
  size : length l.marks ≡ l.rows * 128;
  shows : (row kind : ℕ) → kind < 128 → is_marked l.marks row kind ≡ has_place (take l.place-index l.places) row kind;
}
