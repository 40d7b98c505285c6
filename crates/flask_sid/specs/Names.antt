-- Names, as the texts write them.
use Rattle.std.specs.Prelude.{ℕ, Bool, false, ◌&&◌, ◌||◌, not, ◌==◌, nat_le, nat_lt, List, [], ◌∷◌, length, codes}
use Rattle.std.specs.List.{list_all}
use Rattle.std.specs.Str.{bytes_eq}

-- a lower-case letter, with which a name begins
abbrev pub is_lower : ℕ → Bool
is_lower b = nat_le 97 b && nat_le b 122

-- a lower-case letter, a digit or `_`
abbrev pub is_name_byte : ℕ → Bool
is_name_byte b = is_lower b || (nat_le 48 b && nat_le b 57) || b == 95

-- a word that would be a name but for its length: a lower-case letter, and then such bytes
unfoldable pub is_name_form : List ℕ → Bool
is_name_form [] = false
is_name_form (b ∷ bs) = is_lower b && list_all is_name_byte bs

-- more than the 32 bytes that a name may have
unfoldable pub is_long : List ℕ → Bool
is_long word = nat_lt 32 (length word)

-- a name: such a word of 1 to 32 bytes
unfoldable pub is_name : List ℕ → Bool
is_name word = is_name_form word && not (is_long word)

-- the word `self`, which names no type and no attribute
unfoldable pub is_self : List ℕ → Bool
is_self word = bytes_eq word (codes "self")

-- a word that would name a type but for its length
unfoldable pub is_kind_form : List ℕ → Bool
is_kind_form word = is_name_form word && not (is_self word)
