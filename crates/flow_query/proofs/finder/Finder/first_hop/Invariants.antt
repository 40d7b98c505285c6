use Rattle.std.proofs.Common.{◌≡◌, drop}
use Rattle.flow_query.specs.Paths.{graph_of}
use Rattle.flow_query.specs.Levels.{first_hop}
use Rattle.flow_query.proofs.finder.Finder.first_hop.Given as goal

abbrev pub invariant-level : goal.invariant-level
invariant-level l = first_hop ((graph_of l.self).hop l.from) l.level ≡ first_hop ((graph_of l.self).hop l.from) (drop l.to-index l.level)
