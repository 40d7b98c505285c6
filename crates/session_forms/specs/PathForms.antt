-- Paths, as the texts write them.
use Rattle.std.specs.Prelude.{◌≡◌, ℕ, ◌+◌, ◌<◌, Bool, false, ◌&&◌, ◌||◌, not, ◌==◌, nat_lt, List, [], ◌∷◌, length, slice_index, drop, Option, Some, None, if◌then◌else◌, codes}
use Rattle.std.specs.List.{All, list_all, list_any, slice_split}
use Rattle.std.specs.Str.{bytes_eq}
use Rattle.flask_sid.specs.Names.{is_long}
use Rattle.file_calls.specs.Formed.{is_path_byte}

-- a part of a path, of any length: such bytes, one or more, and neither `.` nor `..`
unfoldable pub is_part_form : List ℕ → Bool
is_part_form part = nat_lt 0 (length part) && list_all is_path_byte part && not (bytes_eq part (codes ".")) && not (bytes_eq part (codes ".."))

-- the parts of what stands behind the first `/`: none where that is nothing
abbrev pub parts_behind : List ℕ → List (List ℕ)
parts_behind [] = []
parts_behind (b ∷ bs) = slice_split (λ c. c == 47) (b ∷ bs)

-- the parts of a path, which may be too many or too long: `/`, or parts each behind a `/`
unfoldable pub path_form : List ℕ → Option (List (List ℕ))
path_form [] = None
path_form (b ∷ bs) = if b == 47 && list_all is_part_form (parts_behind bs) then Some (parts_behind bs) else None

-- more than 16 parts, or a part of more than 32 bytes
unfoldable pub is_long_path : List (List ℕ) → Bool
is_long_path parts = nat_lt 16 (length parts) || list_any is_long parts

-- the parts of a text that is cut at each `/`, and none where there is no text
abbrev pub parts_left : Option (List ℕ) → List (List ℕ)
parts_left None = []
parts_left (Some rest) = slice_split (λ c. c == 47) rest

-- the byte between two parts
abbrev pub is_slash : ℕ → Bool
is_slash c = c == 47

-- a text of one part
abbrev pub HasNoSlash : List ℕ → Type 0
HasNoSlash text = All (λ c. is_slash c ≡ false) text

-- the last part of a text stands behind this place
pub record IsLastSlash (text : List ℕ) (at : ℕ) : Type 0 where
  pub within : at < length text
  pub slash : slice_index text at ≡ 47
  pub last : HasNoSlash (drop (at + 1) text)
