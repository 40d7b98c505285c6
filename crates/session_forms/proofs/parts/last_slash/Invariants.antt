use Rattle.std.proofs.Common.{◌≤◌, length, drop}
use Rattle.session_forms.specs.PathForms.{HasNoSlash}
use Rattle.session_forms.proofs.parts.last_slash.Given as goal

abbrev pub invariant-bytes : goal.invariant-bytes
invariant-bytes l = record { within : l.at ≤ length l.text; none : HasNoSlash (drop l.at l.text) }

abbrev pub decreases-bytes : goal.decreases-bytes
decreases-bytes l = l.at
