use Rattle.std.proofs.Common.{◌≡◌, ◌++◌, take}
use Rattle.policy_print.specs.Printed.{texts_of}
use Rattle.session_print.specs.Printed
use Rattle.session_print.proofs.setup.put_clients.Given as goal

abbrev pub invariant-clients : goal.invariant-clients
invariant-clients l = l.out ≡ l.fn.out ++ texts_of (Printed.client_words l.contexts) (take l.client-index l.clients)
