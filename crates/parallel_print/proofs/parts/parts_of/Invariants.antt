use Rattle.std.proofs.Common.{◌≡◌, ◌++◌, length}
use Rattle.std.specs.List.{flat_map}
use Rattle.parallel_print.specs.Parts.{items_of}
use Rattle.parallel_print.proofs.parts.parts_of.Given as goal

abbrev pub invariant-parts : goal.invariant-parts
invariant-parts g l = record { all : flat_map items_of l.parts.items ++ l.rest ≡ l.fn.items }

abbrev pub decreases-parts : goal.decreases-parts
decreases-parts g l = length l.rest
