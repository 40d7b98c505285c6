use Rattle.flow_query.specs.Paths.{graph_of}
use Rattle.flow_query.proofs.NodeLemmas.{AreNodesBelow}
use Rattle.flow_query.proofs.finder.Finder.nodes.Given as goal

abbrev pub invariant-places : goal.invariant-places
invariant-places l = AreNodesBelow (graph_of l.self) l.place l.nodes.items
