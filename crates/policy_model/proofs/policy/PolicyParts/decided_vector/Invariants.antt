use Rattle.std.proofs.Common.{◌≡◌, take}
use Rattle.policy_model.specs.Deciding.{decided_vector}
use Rattle.policy_model.proofs.policy.PolicyParts.decided_vector.Given as goal

abbrev pub invariant-rules : goal.invariant-rules
invariant-rules l = l.vector ≡ decided_vector l.self.attributes (take l.rule-index l.rules) l.s l.t l.class
