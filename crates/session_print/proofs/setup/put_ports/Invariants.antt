use Rattle.std.proofs.Common.{◌≡◌, ◌++◌, take}
use Rattle.policy_print.specs.Printed.{texts_of}
use Rattle.session_print.specs.Printed
use Rattle.session_print.proofs.setup.put_ports.Given as goal

abbrev pub invariant-ports : goal.invariant-ports
invariant-ports l = l.out ≡ l.fn.out ++ texts_of (Printed.labelled_port_words l.contexts) (take l.line-index l.ports)
