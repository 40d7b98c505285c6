use Rattle.std.proofs.Common.{◌≡◌, ◌<◌, ℕ, length, take}
use Rattle.policy_versions.specs.Numbers.{is_marked}
use Rattle.policy_versions.specs.Founds.{has_kind}
use Rattle.policy_versions.proofs.found.Found.kinds.Given as goal

abbrev pub invariant-places : goal.invariant-places
invariant-places l = record {
  size : length l.present ≡ 128;
  kinds : (kind : ℕ) → kind < 128 → is_marked l.present 0 kind ≡ has_kind (take l.place-index l.places) kind;
}
