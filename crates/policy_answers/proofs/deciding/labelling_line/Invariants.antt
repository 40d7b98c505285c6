use Rattle.std.proofs.Common.{◌≡◌, take}
use Rattle.policy_model.specs.Deciding.{last_said}
use Rattle.policy_answers.specs.Deciders.{giving_line}
use Rattle.policy_answers.proofs.deciding.labelling_line.Given as goal

abbrev pub invariant-rules : goal.invariant-rules
invariant-rules l = l.line ≡ last_said (giving_line l.labelling l.policy.attributes l.s l.t l.class) (take l.rule-index l.rules)
