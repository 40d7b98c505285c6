use Rattle.std.proofs.Common.{◌≡◌, ◌++◌, take}
use Rattle.policy_print.specs.Printed.{texts_of}
use Rattle.session_print.specs.Printed
use Rattle.session_print.proofs.runs.put_runs.Given as goal

abbrev pub invariant-lines : goal.invariant-lines
invariant-lines l = l.out ≡ l.fn.out ++ texts_of (Printed.run_line_words l.contexts l.clients) (take l.line-index l.lines)
