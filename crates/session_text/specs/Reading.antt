-- Reading a session text line after line, and the session that a text is.
use Rattle.std.specs.Prelude.{◌≡◌, ℕ, ◌+◌, Bool, true, false, List, [], ◌∷◌, Result, Ok, Err, if◌then◌else◌, codes}
use Rattle.std.specs.Str.{bytes_eq}
use Rattle.text_lines.specs.declared.fault.FaultKind.{FaultKind}
use Rattle.text_lines.specs.declared.fault.FaultKind.TheVariants.{Syntax, Ended}
use Rattle.text_lines.specs.declared.fault.Refusal.{Refusal}
use Rattle.text_lines.specs.Refusals.{Fails, FailsText}
use Rattle.text_lines.specs.declared.fault.TextFault.{TextFault}
use Rattle.text_lines.specs.Lines.{lines_of, words_of, line_words}
use Rattle.text_lines.specs.ResultSteps.{◌>>=◌, LineFault, found_or, at_line}
use Rattle.policy_model.specs.declared.policy.PolicyParts.{PolicyParts}
use Rattle.policy_text.specs.Grammar.{end_read}
use Rattle.policy_text.specs.Reading.{Reading, begun as policy_begun, read_on}
use Rattle.session_forms.specs.SetupForms.{setup_form}
use Rattle.session_text.specs.Progress.{SetupReading, RunReading}
use Rattle.session_text.specs.Grammar.{Setup, set_up, file_read, directory_read, client_read, initial_read, audit_read, port_read, run_line_read}
use Rattle.session_forms.specs.declared.setup_forms.SetupForm.{SetupForm}
use Rattle.session_forms.specs.declared.setup_forms.SetupForm.TheVariants as form
use Rattle.session_text.specs.declared.session.SessionParts.{SessionParts}
use Rattle.session_text.specs.Readers.{SessionReader}
use Rattle.session_text.specs.Readers as reader

-- the line above which the policy stands: its first word is `session`
unfoldable pub is_session_line : List ℕ → Bool
is_session_line line = begins_session (words_of line)
  where
    begins_session : List (List ℕ) → Bool
    begins_session [] = false
    begins_session (first ∷ words) = bytes_eq first (codes "session")

-- the session of a policy, with nothing there yet: without `initial` lines the first context is the root's and that of ports
abbrev pub session_of_policy : PolicyParts → SessionParts
session_of_policy policy = record { policy = policy; root = 1; port = 1; ports = []; audit = false; nodes = []; clients = []; lines = [] }

-- above the first session line
abbrev pub setup_of_policy : PolicyParts → Setup
setup_of_policy policy = record { session = session_of_policy policy; root_given = false; port_given = false }

-- `session`, alone in its line
unfoldable pub is_alone : List (List ℕ) → Bool
is_alone (word ∷ []) = true
is_alone words = false

-- the session line, number n: the policy ends here, and then the line has to say `session` alone
unfoldable pub session_line_read : Reading → List ℕ → Result SetupReading LineFault
session_line_read reading line =
    end_read reading.number reading.above >>= λ policy. at_line reading.number (line_words reading.number line >>= λ words. begun policy words)
  where
    begun : PolicyParts → List (List ℕ) → Result SetupReading FaultKind
    begun policy words = if is_alone words then Ok (record { number = reading.number + 1; above = setup_of_policy policy }) else Err Syntax

-- a session line of this form, which is not `run`
unfoldable pub setup_read : SetupForm → Setup → Result Setup FaultKind
setup_read (form.File path context bytes) setup = file_read path context bytes setup.session >>= λ next. Ok (set_up setup next)
setup_read (form.Client name context) setup = client_read name context setup.session >>= λ next. Ok (set_up setup next)
setup_read (form.Directory path context) setup = directory_read path context setup.session >>= λ next. Ok (set_up setup next)
setup_read (form.Initial what context) setup = initial_read what context setup
setup_read (form.Port number context) setup = port_read number context setup.session >>= λ next. Ok (set_up setup next)
setup_read form.Audit setup = audit_read setup.session >>= λ next. Ok (set_up setup next)
setup_read form.Run setup = Ok setup

-- the last session line
abbrev pub is_run : SetupForm → Bool
is_run form.Run = true
is_run said = false

-- below session line n of this form, of which `run` is the last
abbrev pub below_setup : ℕ → SetupForm → Setup → SessionReader
below_setup n form.Run setup = reader.Run (record { number = n + 1; above = setup.session })
below_setup n said setup = reader.Setup (record { number = n + 1; above = setup })

-- below session line n of this form, where it has no fault
abbrev pub setup_form_read : ℕ → SetupForm → Setup → Result SessionReader FaultKind
setup_form_read n said setup = setup_read said setup >>= λ next. Ok (below_setup n said next)

-- what session line n says, if anything
unfoldable pub setup_words_read : ℕ → List (List ℕ) → Setup → Result SessionReader FaultKind
setup_words_read n [] setup = Ok (reader.Setup (record { number = n + 1; above = setup }))
setup_words_read n (first ∷ words) setup = found_or Syntax (setup_form first words) >>= λ said. setup_form_read n said setup

-- session line number n
abbrev pub numbered_line_read : ℕ → List ℕ → Setup → Result SessionReader FaultKind
numbered_line_read n line setup = line_words n line >>= λ words. setup_words_read n words setup

-- a session line
unfoldable pub setup_line_read : SetupReading → List ℕ → Result SessionReader LineFault
setup_line_read reading line = at_line reading.number (numbered_line_read reading.number line reading.above)

-- below one line more that runs
unfoldable pub run_on : RunReading → List ℕ → Result RunReading LineFault
run_on reading line =
    at_line reading.number (run_line_read reading.number line reading.above) >>= λ next. Ok (record { number = reading.number + 1; above = next })

-- session line n was read: what was said became this, and `true` tells that the line is `run`
abbrev pub Leads : Result Bool Refusal → ℕ → Setup → Result SessionReader FaultKind → Type 0
Leads (Ok true) n now said = said ≡ Ok (reader.Run (record { number = n + 1; above = now.session }))
Leads (Ok false) n now said = said ≡ Ok (reader.Setup (record { number = n + 1; above = now }))
Leads (Err e) n now said = Fails e said

-- the answer is what is said of the session line: the number of the next line and what is there, or the fault
abbrev pub IsBegun : Result (ℕ × Setup) TextFault → Result SetupReading LineFault → Type 0
IsBegun (Ok begun) said = said ≡ Ok (record { number = begun.0; above = begun.1 })
IsBegun (Err e) said = FailsText e said

-- below one line more
unfoldable pub read_line : SessionReader → List ℕ → Result SessionReader LineFault
read_line (reader.Policy reading) line =
    if is_session_line line then (session_line_read reading line >>= λ next. Ok (reader.Setup next))
    else (read_on reading line >>= λ next. Ok (reader.Policy next))
read_line (reader.Setup reading) line = setup_line_read reading line
read_line (reader.Run reading) line = run_on reading line >>= λ next. Ok (reader.Run next)

-- a text that ends here: only below the line `run` is it a session
unfoldable pub read_end : SessionReader → Result SessionParts LineFault
read_end (reader.Policy reading) = Err (record { line = reading.number; kind = Ended })
read_end (reader.Setup reading) = Err (record { line = reading.number; kind = Ended })
read_end (reader.Run reading) = Ok reading.above

-- the reader of session lines, and that of the lines that run, of which line n is the next
abbrev pub in_setup : ℕ → Setup → SessionReader
in_setup n setup = reader.Setup (record { number = n; above = setup })

abbrev pub in_run : ℕ → Setup → SessionReader
in_run n setup = reader.Run (record { number = n; above = setup.session })

-- what a reader makes of the lines that are left
unfoldable pub read_lines : SessionReader → List (List ℕ) → Result SessionParts LineFault
read_lines state [] = read_end state
read_lines state (line ∷ lines) = read_line state line >>= λ next. read_lines next lines

-- lines were read down to a reader's first, and so what it makes of those that are left is what was to be made of them all;
-- or the answer is the fault of one of them
abbrev pub IsReadTo : (ℕ → Setup → SessionReader) → Result (ℕ × Setup) TextFault → List (List ℕ) → Result SessionParts LineFault → Type 0
IsReadTo state (Ok below) left whole = read_lines (state below.0 below.1) left ≡ whole
IsReadTo state (Err e) left whole = FailsText e whole

-- the session that a text is, or its first faulty line
unfoldable pub session_of : List ℕ → Result SessionParts LineFault
session_of bytes = read_lines (reader.Policy policy_begun) (lines_of bytes)
