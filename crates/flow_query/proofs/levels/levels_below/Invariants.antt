use Rattle.std.proofs.Common.{◌+◌, length}
use Rattle.std.specs.Prelude.{min}
use Rattle.flow_query.specs.Paths.{graph_of}
use Rattle.flow_query.proofs.LevelLemmas.{IsSearched}
use Rattle.flow_query.proofs.levels.levels_below.Given as goal

abbrev pub invariant-levels : goal.invariant-levels
invariant-levels l = IsSearched (graph_of l.finder) l.fn.from l.fn.to l.levels.items l.level.items l.rest.items

abbrev pub decreases-levels : goal.decreases-levels
decreases-levels l = length l.rest.items + min 1 (length l.level.items)
