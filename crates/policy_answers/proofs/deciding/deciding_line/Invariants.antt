use Rattle.std.proofs.Common.{◌≡◌, take}
use Rattle.policy_model.specs.Deciding.{last_said}
use Rattle.policy_answers.specs.Deciders.{speaking_line}
use Rattle.policy_answers.proofs.deciding.deciding_line.Given as goal

abbrev pub invariant-rules : goal.invariant-rules
invariant-rules l = l.line ≡ last_said (speaking_line l.policy.attributes l.s l.t l.perm) (take l.rule-index l.rules)
