use Rattle.std.proofs.Common.{◌≡◌, ℕ, ◌*◌, ◌<◌, ◌≤◌, false}
use Rattle.slot_tables.specs.Words.{holds}
use Rattle.slot_tables.proofs.place_set.next_word.Given as goal

abbrev pub invariant-loop-block : goal.invariant-loop-block
invariant-loop-block l = (q : ℕ) → 64 * l.from ≤ q → q < 64 * l.block → holds l.words q ≡ false
