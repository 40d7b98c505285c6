-- The types of a call's arguments: each reads a word to its value, or tells what is wrong with the word.
use Rattle.std.specs.Prelude.{ℕ, ◌||◌, nat_lt, List, Result, Ok, Err, if◌then◌else◌, codes}
use Rattle.std.specs.Str.{bytes_eq}
use Rattle.text_lines.specs.declared.fault.FaultKind.{FaultKind}
use Rattle.text_lines.specs.declared.fault.FaultKind.TheVariants.{Syntax, Limit}
use Rattle.text_lines.specs.Numerals.{numeral_of}
use Rattle.text_lines.specs.ResultSteps.{◌>>=◌, found_or}
use Rattle.session_forms.specs.Arguments.{is_root}
use Rattle.session_forms.specs.PathForms.{path_form, is_long_path}
use Rattle.session_forms.specs.Ranges.{is_long_word}

-- a number, where it is in its range
abbrev pub in_range : ℕ → ℕ → ℕ → Result ℕ FaultKind
in_range least most number = if nat_lt number least || nat_lt most number then Err Limit else Ok number

-- a numeral in a range
unfoldable pub number_of : ℕ → ℕ → List ℕ → Result ℕ FaultKind
number_of least most word = found_or Syntax (numeral_of word) >>= λ number. in_range least most number

-- a slot
abbrev pub slot_of : List ℕ → Result ℕ FaultKind
slot_of word = number_of 0 63 word

-- where a read or a write begins
abbrev pub offset_of : List ℕ → Result ℕ FaultKind
offset_of word = number_of 0 65536 word

-- how many bytes a read takes at most
abbrev pub length_of : List ℕ → Result ℕ FaultKind
length_of word = number_of 1 1024 word

-- how many names are skipped
abbrev pub skip_of : List ℕ → Result ℕ FaultKind
skip_of word = number_of 0 4096 word

-- the number of a process
abbrev pub pid_of : List ℕ → Result ℕ FaultKind
pid_of word = number_of 1 65535 word

-- a signal
abbrev pub signal_of : List ℕ → Result ℕ FaultKind
signal_of word = number_of 1 64 word

-- the code with which a process ends
abbrev pub code_of : List ℕ → Result ℕ FaultKind
code_of word = number_of 0 255 word

-- a value of 32 bits
abbrev pub value_of : List ℕ → Result ℕ FaultKind
value_of word = number_of 0 4294967295 word

-- the number of a port
abbrev pub port_of : List ℕ → Result ℕ FaultKind
port_of word = number_of 1 65535 word

-- the version that the administrator chooses
abbrev pub version_of : List ℕ → Result ℕ FaultKind
version_of word = number_of 0 255 word

-- a datum: any word that is not too long
abbrev pub datum_of : List ℕ → Result (List ℕ) FaultKind
datum_of word = if is_long_word word then Err Limit else Ok word

-- a path, where it has its form and is not too long
unfoldable pub path_of : List ℕ → Result (List (List ℕ)) FaultKind
path_of word = found_or Syntax (path_form word) >>= λ path. if is_long_path path then Err Limit else Ok path

-- a path below the root
unfoldable pub entry_of : List ℕ → Result (List (List ℕ)) FaultKind
entry_of word = path_of word >>= λ path. if is_root path then Err Syntax else Ok path

-- the mode of an open file: its permissions read, write and append
unfoldable pub mode_of : List ℕ → Result ℕ FaultKind
mode_of word =
    if bytes_eq word (codes "r") then Ok 1
    else if bytes_eq word (codes "w") then Ok 2
    else if bytes_eq word (codes "a") then Ok 4
    else if bytes_eq word (codes "rw") then Ok 3
    else if bytes_eq word (codes "ra") then Ok 5
    else if bytes_eq word (codes "wa") then Ok 6
    else if bytes_eq word (codes "rwa") then Ok 7
    else Err Syntax

-- the mode of a bound port: its permissions name_bind and recv
unfoldable pub bind_mode_of : List ℕ → Result ℕ FaultKind
bind_mode_of word =
    if bytes_eq word (codes "b") then Ok 1
    else if bytes_eq word (codes "br") then Ok 3
    else Err Syntax

-- the mode of a connection: its permissions connect and send
unfoldable pub connect_mode_of : List ℕ → Result ℕ FaultKind
connect_mode_of word =
    if bytes_eq word (codes "c") then Ok 8
    else if bytes_eq word (codes "cs") then Ok 12
    else Err Syntax
