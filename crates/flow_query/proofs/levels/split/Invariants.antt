use Rattle.std.proofs.Common.{◌≡◌, take}
use Rattle.std.specs.Prelude.{is_some, not}
use Rattle.std.specs.List.{filter}
use Rattle.flow_query.specs.Paths.{graph_of}
use Rattle.flow_query.specs.Levels.{first_hop}
use Rattle.flow_query.proofs.levels.split.Given as goal

abbrev pub invariant-rest : goal.invariant-rest
invariant-rest l =
    (l.nearer.items ≡ filter (λ from. is_some (first_hop ((graph_of l.finder).hop from) l.level)) (take l.from-index l.rest))
    × (l.farther.items ≡ filter (λ from. not (is_some (first_hop ((graph_of l.finder).hop from) l.level))) (take l.from-index l.rest))
