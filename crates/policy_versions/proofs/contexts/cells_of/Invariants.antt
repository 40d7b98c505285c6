use Rattle.std.proofs.Common.{◌≡◌, ◌<◌, ◌+◌, ◌*◌, ℕ, length}
use Rattle.policy_versions.specs.Orders.{place_at}
use Rattle.policy_versions.specs.Identifiers.{cell_in}
use Rattle.policy_versions.proofs.contexts.cells_of.Given as goal

abbrev pub invariant-places : goal.invariant-places
invariant-places l = record {
  size : length l.cells.items ≡ l.rows * 128;
  counted : (k : ℕ) → k < l.at → cell_in l.cells.items (place_at l.places k).row (place_at l.places k).kind ≡ k + 1;
}
