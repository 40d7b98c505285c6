use Rattle.std.proofs.Common.{◌≡◌, length}
use Rattle.std.specs.List.{list_all}
use Rattle.session_forms.specs.PathForms.{is_part_form}
use Rattle.session_forms.proofs.parts.Parts.are_part_forms.Given as goal

abbrev pub invariant-parts : goal.invariant-parts
invariant-parts l = list_all is_part_form l.parts ≡ list_all is_part_form l.self

abbrev pub decreases-parts : goal.decreases-parts
decreases-parts l = length l.parts
