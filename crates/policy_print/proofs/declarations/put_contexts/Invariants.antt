use Rattle.std.proofs.Common.{◌≡◌, ◌++◌, take}
use Rattle.policy_print.specs.Printed
use Rattle.policy_print.proofs.declarations.put_contexts.Given as goal

abbrev pub invariant-contexts : goal.invariant-contexts
invariant-contexts l = l.out ≡ l.fn.out ++ Printed.texts_of Printed.context_words (take l.line-index l.contexts)
