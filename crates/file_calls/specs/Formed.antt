-- Calls as a session may give them: which slots, modes, paths, data and numbers there are.
use Rattle.std.specs.Prelude.{ℕ, ◌<◌, ◌≤◌, ◌≢◌, Bool, ◌&&◌, ◌||◌, ◌==◌, nat_le, List, length, All, codes}
use Rattle.std.specs.List.{AllPass}
use Rattle.file_calls.specs.declared.call.FileCall.{FileCall}
use Rattle.file_calls.specs.declared.call.FileCall.TheVariants as call

-- a slot's number
abbrev pub IsSlot : ℕ → Type 0
IsSlot slot = slot < 64

-- a mode: some of the permissions read, write and append, at least one, and no other
abbrev pub IsFileMode : ℕ → Type 0
IsFileMode mode = (0 < mode) × (mode < 8)

-- a letter, a digit, `.`, `_` or `-`
abbrev pub is_path_byte : ℕ → Bool
is_path_byte b = (nat_le 97 b && nat_le b 122) || (nat_le 65 b && nat_le b 90) || (nat_le 48 b && nat_le b 57) || b == 46 || b == 95 || b == 45

-- a part of a path: 1 to 32 such bytes, and neither `.` nor `..`
pub record IsPart (part : List ℕ) : Type 0 where
  pub some : 0 < length part
  pub short : length part ≤ 32
  pub allowed : AllPass is_path_byte part
  pub not_dot : part ≢ codes "."
  pub not_dots : part ≢ codes ".."

-- a path: at most 16 parts, and none for the root
pub record IsPath (path : List (List ℕ)) : Type 0 where
  pub short : length path ≤ 16
  pub parts : All IsPart path

-- a path below the root: 1 to 16 parts
pub record IsEntryPath (path : List (List ℕ)) : Type 0 where
  pub some : 0 < length path
  pub formed : IsPath path

-- where a read or a write begins, and how many bytes a read takes at most
abbrev pub IsOffset : ℕ → Type 0
IsOffset offset = offset ≤ 65536

abbrev pub IsReadLength : ℕ → Type 0
IsReadLength most = (0 < most) × (most ≤ 1024)

-- a byte of data: one that words are made of
abbrev pub is_data_byte : ℕ → Bool
is_data_byte b = nat_le 33 b && nat_le b 126

-- what is written or added: 1 to 1,024 such bytes
abbrev pub IsData : List ℕ → Type 0
IsData piece = (0 < length piece) × (length piece ≤ 1024) × AllPass is_data_byte piece

-- how many names are left out
abbrev pub IsSkip : ℕ → Type 0
IsSkip skip = skip ≤ 4096

-- a call with its slots, its path, its mode, its data and its numbers in their ranges
abbrev pub IsCall : FileCall → Type 0
IsCall (call.Mkdir path) = IsEntryPath path
IsCall (call.Create path) = IsEntryPath path
IsCall (call.OpenFile slot path mode) = IsSlot slot × IsPath path × IsFileMode mode
IsCall (call.ReadFile slot offset most) = IsSlot slot × IsOffset offset × IsReadLength most
IsCall (call.WriteFile slot offset piece) = IsSlot slot × IsOffset offset × IsData piece
IsCall (call.AppendFile slot piece) = IsSlot slot × IsData piece
IsCall (call.CloseFile slot) = IsSlot slot
IsCall (call.Unlink path) = IsEntryPath path
IsCall (call.List path skip) = IsPath path × IsSkip skip
IsCall (call.StatFile path) = IsPath path
IsCall (call.Relabel path sid) = IsPath path
IsCall (call.Give slot client target) = IsSlot slot × IsSlot target
