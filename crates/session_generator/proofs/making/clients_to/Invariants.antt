use Rattle.std.proofs.Common.{◌≡◌}
use Rattle.session_generator.specs.Generated
use Rattle.session_generator.proofs.making.clients_to.Given as goal

abbrev pub invariant-clients : goal.invariant-clients
invariant-clients l = l.clients ≡ Generated.clients_to l.i
