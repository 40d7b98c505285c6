use Rattle.std.proofs.Common.{sym, ◌∙◌}
use Rattle.policy_model.proofs.DecidingLemmas.{none_allowed}
use Rattle.policy_model.proofs.policy.PolicyParts.decided_vector.Goals as goal

pub rules-init : goal.rules-init
rules-init c = c.empty-vector.ensures ∙ sym (none_allowed _ _ _ _)
