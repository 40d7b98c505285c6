use Rattle.std.proofs.Common.{◌≡◌, ◌++◌, take}
use Rattle.policy_print.specs.Printed
use Rattle.policy_print.proofs.rules.put_rules.Given as goal

abbrev pub invariant-rules : goal.invariant-rules
invariant-rules l = l.out ≡ l.fn.out ++ Printed.texts_of Printed.rule_words (take l.rule-index l.rules)
