-- The commands, as the words after the program's name ask them.
use Rattle.std.specs.Prelude.{ℕ, ◌≤◌, ◌&&◌, ◌||◌, nat_lt, List, [], ◌∷◌, Option, Some, None, option_map, if◌then◌else◌, codes}
use Rattle.std.specs.Str.{bytes_eq}
use Rattle.flask_sid.specs.Names.{is_name}
use Rattle.text_lines.specs.Numerals.{numeral_of}
use Rattle.text_lines.specs.OptionSteps.{◌>>=◌}
use Rattle.command_line.specs.declared.command.Command.{Command}
use Rattle.command_line.specs.declared.command.Command.TheVariants as command
use Rattle.command_line.specs.declared.command.PathAsked.{PathAsked}

-- the number from least to most that a numeral is
unfoldable pub number_within : ℕ → ℕ → List ℕ → Option ℕ
number_within least most word = do
  number ← numeral_of word
  if nat_lt number least || nat_lt most number then None else Some number

-- the greatest seed, and the most clients and run lines, of a session that is made
abbrev pub most_seed : ℕ
most_seed = 2147483647

abbrev pub most_clients : ℕ
most_clients = 62

abbrev pub most_lines : ℕ
most_lines = 90000

-- a command of one word, by that word
unfoldable pub one_form : List ℕ → Option Command
one_form name =
    if bytes_eq name (codes "serial") then Some command.Serial
    else if bytes_eq name (codes "threads") then Some command.Threads
    else None

-- a command of two words: `learn`, and a numeral of any value
unfoldable pub two_form : List ℕ → List ℕ → Option Command
two_form name one = if bytes_eq name (codes "learn") then option_map command.Learn (numeral_of one) else None

-- the words behind `generate`: SEED CLIENTS LINES
unfoldable pub generate_form : List ℕ → List ℕ → List ℕ → Option Command
generate_form seed clients lines = do
  seed ← number_within 0 most_seed seed
  clients ← number_within 1 most_clients clients
  lines ← number_within 1 most_lines lines
  Some (command.Generate seed clients lines)

-- the words behind `flow` and `enter`: VERSION FROM TO, a numeral of any value and two names
unfoldable pub path_form : List ℕ → List ℕ → List ℕ → Option PathAsked
path_form version from to = do
  number ← numeral_of version
  if is_name from && is_name to then Some (record { version = number; from = from; to = to }) else None

-- a command of four words, by the first
unfoldable pub four_form : List ℕ → List ℕ → List ℕ → List ℕ → Option Command
four_form name one two three =
    if bytes_eq name (codes "generate") then generate_form one two three
    else if bytes_eq name (codes "flow") then option_map command.Flow (path_form one two three)
    else if bytes_eq name (codes "enter") then option_map command.Enter (path_form one two three)
    else None

-- the command that words are: one word, two or four, and every other list is none
unfoldable pub command_of : List (List ℕ) → Option Command
command_of (name ∷ []) = one_form name
command_of (name ∷ one ∷ []) = two_form name one
command_of (name ∷ one ∷ two ∷ three ∷ []) = four_form name one two three
command_of _ = None

-- numbers of which a session is made: a seed of 31 bits, 1 to 62 clients, 1 to 90,000 lines
pub record IsWithin (seed clients lines : ℕ) : Type 0 where
  pub seed_is : seed ≤ most_seed
  pub some_client : 1 ≤ clients
  pub few_clients : clients ≤ most_clients
  pub some_line : 1 ≤ lines
  pub few_lines : lines ≤ most_lines

-- a command with its numbers in their ranges; the version of `flow`, `enter` and `learn` may be any
abbrev pub IsRanged : Command → Type 0
IsRanged (command.Generate seed clients lines) = IsWithin seed clients lines
IsRanged other = Unit {0}

-- the command whose words stand in these places, from the first on: one of them, two or all four
unfoldable pub command_by : Option (List ℕ) → Option (List ℕ) → Option (List ℕ) → Option (List ℕ) → Option Command
command_by (Some name) None None None = one_form name
command_by (Some name) (Some one) None None = two_form name one
command_by (Some name) (Some one) (Some two) (Some three) = four_form name one two three
command_by _ _ _ _ = None
