-- Entries of directories, as finite maps from names to numbers.
use Rattle.std.specs.Prelude.{ℕ, ◌+◌, ◌*◌, ◌&&◌, ◌==◌, cond, List, [], Option, None, Some, map}
use Rattle.std.specs.declared.cmp.Ordering.{Ordering}
use Rattle.std.specs.Ordering.{nat_cmp}
use Rattle.std.specs.Cmp.Lexicographic.{slice_cmp}
use Rattle.std.specs.Str.{bytes_eq}
use Rattle.std.specs.FinMap as maps
use Rattle.std.specs.FinMap.{FinMap}

-- the finite map of rows, by what their keys say
abbrev pub map_by : {K J X : Type 0} {R : J → J → Ordering} → (K → J) → List (K × X) → FinMap R X
map_by said rows = maps.from_entries (map (λ row. (said row.0, row.1)) rows)

-- numbers by names, in byte order of the names
abbrev pub Numbers : Type 0
Numbers = FinMap (slice_cmp nat_cmp) ℕ

-- shelves of names, by their places
abbrev pub Places : Type 0
Places = FinMap nat_cmp Numbers

-- the place of the entries of a numbered directory under a key
abbrev pub place_of : ℕ → ℕ → ℕ
place_of directory key = 65536 * directory + key

-- the number of a name on a shelf that may be missing
abbrev pub number_on : Option Numbers → List ℕ → Option ℕ
number_on None name = None
number_on (Some shelf) name = maps.get shelf name

-- the number of a name at a place
unfoldable pub number_at : Places → ℕ → List ℕ → Option ℕ
number_at places place name = number_on (maps.get places place) name

-- what a name at a place has after a change of one name at one place
abbrev pub changed_at : Places → ℕ → List ℕ → Option ℕ → ℕ → List ℕ → Option ℕ
changed_at places at name number place other = cond (place == at && bytes_eq other name) number (number_at places place other)

-- how many names stand on a shelf that may be missing
abbrev pub count_on : Option Numbers → ℕ
count_on None = 0
count_on (Some shelf) = maps.len shelf

-- the names on a shelf that may be missing, in byte order
abbrev pub names_on : Option Numbers → List (List ℕ)
names_on None = []
names_on (Some shelf) = maps.keys shelf
