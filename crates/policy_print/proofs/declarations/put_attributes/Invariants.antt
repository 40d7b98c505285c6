use Rattle.std.proofs.Common.{◌≡◌, ◌++◌, take}
use Rattle.policy_print.specs.Printed
use Rattle.policy_print.proofs.declarations.put_attributes.Given as goal

abbrev pub invariant-attributes : goal.invariant-attributes
invariant-attributes l = l.out ≡ l.fn.out ++ Printed.texts_of Printed.attribute_words (take l.line-index l.attributes)
