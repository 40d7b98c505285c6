-- A finite map of numbered places with each value replaced.
use Rattle.std.specs.Prelude.{ℕ, List, [], ◌∷◌}
use Rattle.std.specs.Ordering.{nat_cmp}
use Rattle.std.specs.FinMap as maps
use Rattle.std.specs.FinMap.{FinMap}

-- each entry with the value that f gives for its key and value
abbrev pub entries_mapped : {V W : Type 0} → (ℕ → V → W) → List (ℕ × V) → List (ℕ × W)
entries_mapped f [] = []
entries_mapped f (e ∷ es) = (e.0, f e.0 e.1) ∷ entries_mapped f es

-- the map that has at each key of m the value that f gives for that key and its value there
unfoldable pub mapped : {V W : Type 0} → (ℕ → V → W) → FinMap nat_cmp V → FinMap nat_cmp W
mapped f m = maps.from_sorted (entries_mapped f (maps.entries m))
