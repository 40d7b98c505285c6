-- What the words of a session line give, before their limits are judged.
use Rattle.std.specs.Prelude.{◌≡◌, ℕ, Bool, true, ◌&&◌, List, IfSome}
use Rattle.std.specs.List.{list_all}
use Rattle.flask_sid.specs.Names.{is_name_form}
use Rattle.text_lines.specs.Lines.{is_filled, is_word_byte}
use Rattle.session_forms.specs.PathForms.{is_part_form}
use Rattle.session_forms.specs.declared.setup_forms.SetupForm.{SetupForm}
use Rattle.session_forms.specs.declared.setup_forms.SetupForm.TheVariants as setup

-- a word: one byte or more, each of those that words are made of
abbrev pub is_word : List ℕ → Bool
is_word word = is_filled word && list_all is_word_byte word

abbrev pub IsWord : List ℕ → Type 0
IsWord word = is_word word ≡ true

-- a path: its parts have their form, and may be too many or too long
abbrev pub IsPathForm : List (List ℕ) → Type 0
IsPathForm path = list_all is_part_form path ≡ true

-- any session line: paths and names have their form, and the bytes of a file are a word
unfoldable pub IsSetupForm : SetupForm → Type 0
IsSetupForm (setup.File path context bytes) = IsPathForm path × IfSome bytes IsWord
IsSetupForm (setup.Directory path context) = IsPathForm path
IsSetupForm (setup.Client name context) = is_name_form name ≡ true
IsSetupForm said = Unit {0}
