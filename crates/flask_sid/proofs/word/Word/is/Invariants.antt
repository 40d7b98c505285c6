use Rattle.std.proofs.Common.{◌≡◌, ◌-◌, ℕ, ◌<◌, length, get_or}
use Rattle.flask_sid.proofs.word.Word.is.Given as goal

abbrev pub invariant-bytes : goal.invariant-bytes
invariant-bytes l = (k : ℕ) → k < l.at → get_or l.self k 0 ≡ get_or l.fn.bytes k 0

abbrev pub decreases-bytes : goal.decreases-bytes
decreases-bytes l = length l.fn.bytes - l.at
