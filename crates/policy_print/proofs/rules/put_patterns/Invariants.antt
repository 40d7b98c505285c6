use Rattle.std.proofs.Common.{◌≡◌, ◌++◌, take}
use Rattle.policy_print.specs.Printed
use Rattle.policy_print.proofs.rules.put_patterns.Given as goal

abbrev pub invariant-patterns : goal.invariant-patterns
invariant-patterns l = l.out ≡ l.fn.out ++ Printed.texts_of (Printed.pattern_words l.fn.first) (take l.pattern-index l.patterns)
