use Rattle.std.proofs.Common.{◌≡◌, ◌-◌, ℕ, ◌<◌, ◌≤◌, false, length, get_or}
use Rattle.text_lines.specs.Lines.{is_gap}
use Rattle.text_lines.proofs.words.word_length.Given as goal

abbrev pub invariant-bytes : goal.invariant-bytes
invariant-bytes l = record {
  within : l.at ≤ length l.bytes;
  word : (k : ℕ) → k < l.at → is_gap (get_or l.bytes k 0) ≡ false;
}

abbrev pub decreases-bytes : goal.decreases-bytes
decreases-bytes l = length l.bytes - l.at
