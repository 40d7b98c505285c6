use Rattle.std.proofs.Common.{◌≡◌, length}
use Rattle.std.specs.List.{list_any}
use Rattle.flask_sid.specs.Names.{is_long}
use Rattle.policy_text.proofs.long.is_some_long.Given as goal

abbrev pub invariant-names : goal.invariant-names
invariant-names l = list_any is_long l.rest ≡ list_any is_long l.fn.words

abbrev pub decreases-names : goal.decreases-names
decreases-names l = length l.rest
