use Rattle.std.proofs.Common.{◌≡◌, take}
use Rattle.std.specs.Prelude.{not, ◌==◌}
use Rattle.std.specs.List.{filter}
use Rattle.flow_query.proofs.levels.others.Given as goal

abbrev pub invariant-nodes : goal.invariant-nodes
invariant-nodes l = l.others.items ≡ filter (λ node. not (node == l.but)) (take l.node-index l.nodes)
