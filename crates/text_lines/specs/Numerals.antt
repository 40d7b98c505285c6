-- Numerals, as the texts write them.
use Rattle.std.specs.Prelude.{ℕ, Bool, ◌&&◌, nat_le, nat_lt, List, length, Option, Some, None, if◌then◌else◌}
use Rattle.std.specs.List.{list_all}
use Rattle.std.specs.Str.Parse.{digits_value}

-- a decimal digit
abbrev pub is_digit : ℕ → Bool
is_digit b = nat_le 48 b && nat_le b 57

-- the number that digits are, where each byte is one
abbrev pub value_of : List ℕ → Option ℕ
value_of digits = if list_all is_digit digits then Some (digits_value 10 digits) else None

-- the number that a word of 1 to 10 digits is, which may begin with zeros
unfoldable pub numeral_of : List ℕ → Option ℕ
numeral_of word = if nat_lt 0 (length word) && nat_le (length word) 10 && list_all is_digit word then Some (digits_value 10 word) else None
