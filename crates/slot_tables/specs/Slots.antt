-- A table of numbered slots as a finite map.
use Rattle.std.specs.Prelude.{ℕ, ◌+◌, List, [], ◌∷◌, Option, None, Some, slice_index_or}
use Rattle.std.specs.Ordering.{nat_cmp}
use Rattle.std.specs.FinMap as maps
use Rattle.std.specs.FinMap.{FinMap}

-- what a slot holds, if it is used
abbrev pub slot_at : {V : Type 0} → List (Option V) → ℕ → Option V
slot_at slots place = slice_index_or slots place None

-- what the used slots hold, the first slot being at `base`
unfoldable pub slots_from : {V : Type 0} → ℕ → List (Option V) → FinMap nat_cmp V
slots_from base [] = maps.empty
slots_from base (None ∷ slots) = slots_from (base + 1) slots
slots_from base (Some value ∷ slots) = maps.insert (slots_from (base + 1) slots) base value

-- what the used slots hold, by their numbers
unfoldable pub map_of : {V : Type 0} → List (Option V) → FinMap nat_cmp V
map_of slots = slots_from 0 slots
