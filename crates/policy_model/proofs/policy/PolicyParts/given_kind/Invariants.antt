use Rattle.std.proofs.Common.{◌≡◌, take}
use Rattle.std.specs.Option.{option_copied}
use Rattle.policy_model.specs.Deciding.{last_said, gives_kind}
use Rattle.policy_model.proofs.policy.PolicyParts.given_kind.Given as goal

abbrev pub invariant-rules : goal.invariant-rules
invariant-rules l = option_copied l.given ≡ last_said (gives_kind l.labelling l.self.attributes l.s l.t l.class) (take l.rule-index l.rules)
