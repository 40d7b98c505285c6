use Rattle.std.proofs.Common.{◌≡◌, ◌++◌, take}
use Rattle.policy_print.specs.Printed.{texts_of}
use Rattle.session_print.specs.Printed
use Rattle.session_print.proofs.setup.put_nodes.Given as goal

abbrev pub invariant-nodes : goal.invariant-nodes
invariant-nodes l = l.out ≡ l.fn.out ++ texts_of (Printed.node_words l.contexts) (take l.node-index l.nodes)
