use Rattle.std.proofs.Common.{◌≡◌, length}
use Rattle.std.specs.Prelude.{true}
use Rattle.flow_query.specs.Paths.{graph_of}
use Rattle.flow_query.specs.Levels.{AreLevels, IsAt}
use Rattle.flow_query.proofs.WalkLemmas.{IsOnTheWay}
use Rattle.flow_query.proofs.way.walk.Given as goal

abbrev pub invariant-levels : goal.invariant-levels
invariant-levels l = record {
  node : (graph_of l.finder).node l.at ≡ true;
  levels : AreLevels (graph_of l.finder) l.fn.to l.levels.items;
  here : IsAt (graph_of l.finder) l.fn.to (length l.levels.items) l.at;
  way : IsOnTheWay (graph_of l.finder) l.fn.from l.fn.to l.hops.items l.at;
}

abbrev pub decreases-levels : goal.decreases-levels
decreases-levels l = length l.levels.items
