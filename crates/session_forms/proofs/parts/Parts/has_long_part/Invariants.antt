use Rattle.std.proofs.Common.{◌≡◌, length}
use Rattle.std.specs.List.{list_any}
use Rattle.flask_sid.specs.Names.{is_long}
use Rattle.session_forms.proofs.parts.Parts.has_long_part.Given as goal

abbrev pub invariant-parts : goal.invariant-parts
invariant-parts l = list_any is_long l.parts ≡ list_any is_long l.self

abbrev pub decreases-parts : goal.decreases-parts
decreases-parts l = length l.parts
