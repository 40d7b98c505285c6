use Rattle.std.proofs.Common.{◌≡◌, ◌++◌, take}
use Rattle.policy_print.specs.Printed
use Rattle.policy_print.proofs.declarations.put_kinds.Given as goal

abbrev pub invariant-kinds : goal.invariant-kinds
invariant-kinds l = l.out ≡ l.fn.out ++ Printed.texts_of Printed.kind_words (take l.kind-index l.kinds)
