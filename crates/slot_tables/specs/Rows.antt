-- Places by name, as rows of a key and a word of 64 places, in the order of their keys.
use Rattle.std.specs.Prelude.{◌≡◌, ℕ, ◌+◌, ◌*◌, ◌/◌, ◌%◌, ◌<◌, ◌≤◌, ◌&&◌, Bool, nat_lt, List, Option, None, Some, unwrap_or, is_some}
use Rattle.std.specs.Map.{lookup}
use Rattle.std.specs.BTreeMap.{is_at}
use Rattle.std.specs.Ordering.{nat_cmp}
use Rattle.slot_tables.specs.Words.{has_bit}

-- the word at a key, if there is a row for it
abbrev pub row_at : List (ℕ × ℕ) → ℕ → Option ℕ
row_at rows key = lookup (is_at (nat_cmp key)) rows

-- the key of the row in which a name has a place below 65,536
abbrev pub row_key : ℕ → ℕ → ℕ
row_key name place = 1024 * name + place / 64

-- the name has the place
unfoldable pub on : List (ℕ × ℕ) → ℕ → ℕ → Bool
on rows name place = nat_lt place 65536 && has_bit (unwrap_or (row_at rows (row_key name place)) 0) (place % 64)

-- there is a row in which the name would have the place
unfoldable pub has_row : List (ℕ × ℕ) → ℕ → ℕ → Bool
has_row rows name place = is_some (row_at rows (row_key name place))

-- a row is the first from one key up to another
pub record IsFirstRow (rows : List (ℕ × ℕ)) (low end key word : ℕ) : Type 0 where
  pub above : low ≤ key
  pub below : key < end
  pub found : row_at rows key ≡ Some word
  pub first : (other : ℕ) → low ≤ other → other < key → row_at rows other ≡ None

-- the first row from one key up to another, or `None` exactly where there is none
abbrev pub IsNextRow : List (ℕ × ℕ) → ℕ → ℕ → Option (ℕ × ℕ) → Type 0
IsNextRow rows low end None = (other : ℕ) → low ≤ other → other < end → row_at rows other ≡ None
IsNextRow rows low end (Some row) = IsFirstRow rows low end row.0 row.1
