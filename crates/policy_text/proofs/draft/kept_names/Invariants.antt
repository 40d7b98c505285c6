use Rattle.std.proofs.Common.{◌≡◌, ◌++◌, length}
use Rattle.policy_text.proofs.draft.kept_names.Given as goal

abbrev pub invariant-names : goal.invariant-names
invariant-names l = l.names ++ l.rest ≡ l.fn.words

abbrev pub decreases-names : goal.decreases-names
decreases-names l = length l.rest
