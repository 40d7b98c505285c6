use Rattle.std.proofs.Common.{◌≡◌, ◌++◌}
use Rattle.std.specs.List.{flat_map}
use Rattle.text_print.specs.Printed.{behind}
use Rattle.policy_print.specs.Printed
use Rattle.policy_print.proofs.rules.put_perms.Given as goal

abbrev pub invariant-indexes : goal.invariant-indexes
invariant-indexes l = l.out ≡ l.fn.out ++ flat_map behind (Printed.names_below l.fn.class l.fn.perms l.index)
