use Rattle.std.proofs.Common.{◌≡◌, ◌++◌, take}
use Rattle.std.specs.List.{flat_map}
use Rattle.text_print.specs.Printed.{behind}
use Rattle.answer_text.proofs.replies.put_each.Given as goal

abbrev pub invariant-names : goal.invariant-names
invariant-names l = l.out ≡ l.fn.out ++ flat_map behind (take l.name-index l.names)
