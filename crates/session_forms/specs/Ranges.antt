-- Arguments past their limits: a number out of its range, a word that is too long.
use Rattle.std.specs.Prelude.{ℕ, Bool, false, ◌||◌, ◌==◌, nat_lt, List, length, Option, Some, None}

-- the greatest number of bytes of a data word
abbrev pub data_limit : ℕ
data_limit = 1024

-- a data word that is too long
abbrev pub is_long_word : List ℕ → Bool
is_long_word bytes = nat_lt data_limit (length bytes)

-- a data word, where there is one, that is too long
abbrev pub is_long_data : Option (List ℕ) → Bool
is_long_data None = false
is_long_data (Some bytes) = is_long_word bytes

-- past the numbers of ports, which are 1 to 65,535
abbrev pub is_past_place : ℕ → Bool
is_past_place number = number == 0 || nat_lt 65535 number
