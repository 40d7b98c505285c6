use Rattle.std.proofs.Common.{◌≡◌, length}
use Rattle.policy_text.specs.Known.{perms_named}
use Rattle.policy_text.proofs.known.perms_with.Given as goal

abbrev pub invariant-names : goal.invariant-names
invariant-names l = perms_named l.class l.vector l.rest ≡ perms_named l.class l.fn.known l.fn.words

abbrev pub decreases-names : goal.decreases-names
decreases-names l = length l.rest
