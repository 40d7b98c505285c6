use Rattle.std.proofs.Common.{◌≡◌, ◌-◌, ◌≤◌, ◌++◌, length, map, take, drop}
use Rattle.std.specs.FinMap as maps
use Rattle.file_tree.proofs.Paths.{page_left}
use Rattle.file_tree.proofs.shelf.Shelf.names.Given as goal

abbrev pub invariant-loop-name : goal.invariant-loop-name
invariant-loop-name l =
    (take l.most (drop l.skip (maps.keys l.fn.self)) ≡ l.names ++ page_left (l.most - length l.names) (l.skip - l.passed) (map (λ name. name.items) l.name-iterator))
    × (l.passed ≤ l.skip)
