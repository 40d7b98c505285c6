use Rattle.std.proofs.Common.{◌≡◌, ◌++◌, length}
use Rattle.session_forms.proofs.parts.Parts.kept.Given as goal

abbrev pub invariant-parts : goal.invariant-parts
invariant-parts l = l.path ++ l.parts ≡ l.self

abbrev pub decreases-parts : goal.decreases-parts
decreases-parts l = length l.parts
