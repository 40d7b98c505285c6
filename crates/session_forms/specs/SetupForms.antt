-- What each session line says by itself. A line that is none of these has a syntax fault.
use Rattle.std.specs.Prelude.{ℕ, List, [], ◌∷◌, Option, Some, None, if◌then◌else◌, codes}
use Rattle.std.specs.Str.{bytes_eq}
use Rattle.flask_sid.specs.Names.{is_name_form}
use Rattle.flask_sid.specs.Contexts.{context_form}
use Rattle.text_lines.specs.Numerals.{numeral_of}
use Rattle.text_lines.specs.OptionSteps.{◌>>=◌}
use Rattle.session_forms.specs.Arguments.{last_word, is_end, only_context}
use Rattle.session_forms.specs.PathForms.{path_form}
use Rattle.session_forms.specs.declared.setup_forms.Initial.{Initial}
use Rattle.session_forms.specs.declared.setup_forms.Initial.TheVariants.{Root, Ports}
use Rattle.session_forms.specs.declared.setup_forms.SetupForm.{SetupForm}
use Rattle.session_forms.specs.declared.setup_forms.SetupForm.TheVariants as form

-- `file PATH CONTEXT`, with or without DATA
unfoldable pub file_form : List (List ℕ) → Option SetupForm
file_form (path ∷ context ∷ words) = do
  bytes ← last_word words
  parts ← path_form path
  named ← context_form context
  Some (form.File parts named bytes)
file_form _ = None

-- `dir PATH CONTEXT`
unfoldable pub directory_form : List (List ℕ) → Option SetupForm
directory_form [] = None
directory_form (path ∷ words) = do
  context ← only_context words
  parts ← path_form path
  Some (form.Directory parts context)

-- `client NAME CONTEXT`
unfoldable pub client_form : List (List ℕ) → Option SetupForm
client_form [] = None
client_form (name ∷ words) = do
  context ← only_context words
  if is_name_form name then Some (form.Client name context) else None

-- whose context an `initial` line gives
unfoldable pub initial_of : List ℕ → Option Initial
initial_of word =
    if bytes_eq word (codes "root") then Some Root
    else if bytes_eq word (codes "port") then Some Ports
    else None

-- `initial root CONTEXT` or `initial port CONTEXT`
unfoldable pub initial_form : List (List ℕ) → Option SetupForm
initial_form [] = None
initial_form (what ∷ words) = do
  context ← only_context words
  initial ← initial_of what
  Some (form.Initial initial context)

-- `port NUMBER CONTEXT`
unfoldable pub port_form : List (List ℕ) → Option SetupForm
port_form [] = None
port_form (port ∷ words) = do
  context ← only_context words
  number ← numeral_of port
  Some (form.Port number context)

-- the form, where no word is left
abbrev pub alone : List (List ℕ) → SetupForm → Option SetupForm
alone words said = if is_end words then Some said else None

-- any session line, by its first word
unfoldable pub setup_form : List ℕ → List (List ℕ) → Option SetupForm
setup_form first words =
    if bytes_eq first (codes "file") then file_form words
    else if bytes_eq first (codes "dir") then directory_form words
    else if bytes_eq first (codes "client") then client_form words
    else if bytes_eq first (codes "initial") then initial_form words
    else if bytes_eq first (codes "port") then port_form words
    else if bytes_eq first (codes "audit") then alone words form.Audit
    else if bytes_eq first (codes "run") then alone words form.Run
    else None
