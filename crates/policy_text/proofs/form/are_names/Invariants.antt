use Rattle.std.proofs.Common.{◌≡◌, length}
use Rattle.std.specs.List.{list_all}
use Rattle.flask_sid.specs.Names.{is_name_form}
use Rattle.policy_text.proofs.form.are_names.Given as goal

abbrev pub invariant-names : goal.invariant-names
invariant-names l = list_all is_name_form l.rest ≡ list_all is_name_form l.fn.words

abbrev pub decreases-names : goal.decreases-names
decreases-names l = length l.rest
