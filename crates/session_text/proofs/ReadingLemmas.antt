-- What is left of a text, read from here, is the whole answer.
use Rattle.std.proofs.Common.{◌≡◌, ◌+◌, true, false, Result, ℕ, List, [], ◌∷◌, Ok, Err, refl}
use Rattle.text_lines.specs.ResultSteps.{LineFault}
use Rattle.text_lines.specs.Refusals.{Fails, FailsText}
use Rattle.text_lines.specs.declared.fault.Refusal.{Refusal}
use Rattle.text_lines.specs.declared.fault.Refusal.TheVariants as refusal
use Rattle.text_lines.specs.declared.fault.TextFault.{TextFault}
use Rattle.text_lines.specs.declared.fault.TextFault.TheVariants as text_fault
use Rattle.session_forms.specs.declared.setup_forms.SetupForm.{SetupForm}
use Rattle.session_forms.specs.declared.setup_forms.SetupForm.TheVariants as form
use Rattle.policy_text.specs.Reading.{Reading, read_on, IsRefusedAt}
use Rattle.session_text.specs.declared.session.SessionParts.{SessionParts}
use Rattle.session_text.specs.Progress.{SetupReading}
use Rattle.session_text.specs.Readers as reader
use Rattle.session_text.specs.Grammar.{Setup, run_line_read}
use Rattle.session_text.specs.Reading.{is_session_line, session_line_read, numbered_line_read, setup_line_read, run_on, setup_read, is_run, Leads, setup_form_read, read_line, read_lines, read_end, in_setup, IsBegun, IsReadTo}
use Rattle.session_text.specs.Readers.{SessionReader}

-- what the reader makes of the lines that are left, below one line more
pub below_line : (reader next : SessionReader) (rest below : List (List ℕ)) (line : List ℕ) (total : Result SessionParts LineFault) → read_lines reader rest ≡ total → rest ≡ line ∷ below → read_line reader line ≡ Ok next → read_lines next below ≡ total
unfolding read_lines
below_line reader next rest below line total so_far lines said = rw (lines, said) at so_far

-- a faulty line
faulty : (reader : SessionReader) (rest below : List (List ℕ)) (line : List ℕ) (e : LineFault) (total : Result SessionParts LineFault) → read_lines reader rest ≡ total → rest ≡ line ∷ below → read_line reader line ≡ Err e → total ≡ Err e
unfolding read_lines
faulty reader rest below line e total so_far lines said = let whole = rw (lines, said) at so_far in cc

-- the text is refused as its faulty line is
pub fails_at : (reader : SessionReader) (rest below : List (List ℕ)) (line : List ℕ) (fault : TextFault) (total : Result SessionParts LineFault) → read_lines reader rest ≡ total → rest ≡ line ∷ below → FailsText fault (read_line reader line) → FailsText fault total
fails_at reader rest below line text_fault.Memory total so_far lines said = tt
fails_at reader rest below line (text_fault.Text n kind) total so_far lines said = faulty reader rest below line (record { line = n; kind = kind }) total so_far lines said

-- no line is left
pub at_end : (reader : SessionReader) (rest : List (List ℕ)) (total : Result SessionParts LineFault) → read_lines reader rest ≡ total → rest ≡ [] → total ≡ read_end reader
unfolding read_lines
at_end reader rest total so_far none = let whole = rw none at so_far in cc

-- a line of the policy
pub policy_line : (policy next : Reading) (line : List ℕ) → is_session_line line ≡ false → read_on policy line ≡ Ok next → read_line (reader.Policy policy) line ≡ Ok (reader.Policy next)
unfolding read_line
policy_line policy next line other said = rw (other, said) refl

pub policy_fails : (policy : Reading) (line : List ℕ) (fault : TextFault) → is_session_line line ≡ false → FailsText fault (read_on policy line) → FailsText fault (read_line (reader.Policy policy) line)
unfolding read_line
policy_fails policy line text_fault.Memory other said = tt
policy_fails policy line (text_fault.Text n kind) other said = rw (other, said) refl

-- the session line
session_begins : (policy : Reading) (begun : SetupReading) (line : List ℕ) → is_session_line line ≡ true → session_line_read policy line ≡ Ok begun → read_line (reader.Policy policy) line ≡ Ok (reader.Setup begun)
unfolding read_line
session_begins policy begun line is said = rw (is, said) refl

session_fails : (policy : Reading) (line : List ℕ) (fault : TextFault) → is_session_line line ≡ true → FailsText fault (session_line_read policy line) → FailsText fault (read_line (reader.Policy policy) line)
unfolding read_line
session_fails policy line text_fault.Memory is said = tt
session_fails policy line (text_fault.Text n kind) is said = rw (is, said) refl

pub session_read : (policy : Reading) (rest below : List (List ℕ)) (line : List ℕ) (answer : Result (ℕ × Setup) TextFault) (total : Result SessionParts LineFault) → read_lines (reader.Policy policy) rest ≡ total → rest ≡ line ∷ below
    → is_session_line line ≡ true → IsBegun answer (session_line_read policy line) → IsReadTo in_setup answer below total
session_read policy rest below line (Ok begun) total so_far lines is said =
    below_line (reader.Policy policy) (in_setup begun.0 begun.1) rest below line total so_far lines (session_begins policy (record { number = begun.0; above = begun.1 }) line is said)
session_read policy rest below line (Err fault) total so_far lines is said = fails_at (reader.Policy policy) rest below line fault total so_far lines (session_fails policy line fault is said)

-- a session line
pub setup_line : (n : ℕ) (setup : Setup) (line : List ℕ) (next : SessionReader) → numbered_line_read n line setup ≡ Ok next → read_line (reader.Setup (record { number = n; above = setup })) line ≡ Ok next
unfolding read_line setup_line_read
setup_line n setup line next said = rw said refl

pub setup_refused : (n : ℕ) (setup : Setup) (line : List ℕ) (refused : Refusal) (fault : TextFault) → Fails refused (numbered_line_read n line setup) → IsRefusedAt fault n refused → FailsText fault (read_line (reader.Setup (record { number = n; above = setup })) line)
unfolding read_line setup_line_read
setup_refused n setup line refusal.Memory fault said is = rw is tt
setup_refused n setup line (refusal.Fault kind) fault said is = rw (is, said) refl

-- a line that runs
pub run_line : (n : ℕ) (running next : SessionParts) (line : List ℕ) → run_line_read n line running ≡ Ok next → read_line (reader.Run (record { number = n; above = running })) line ≡ Ok (reader.Run (record { number = n + 1; above = next }))
unfolding read_line run_on
run_line n running next line said = rw said refl

pub run_refused : (n : ℕ) (running : SessionParts) (line : List ℕ) (refused : Refusal) (fault : TextFault) → Fails refused (run_line_read n line running) → IsRefusedAt fault n refused → FailsText fault (read_line (reader.Run (record { number = n; above = running })) line)
unfolding read_line run_on
run_refused n running line refusal.Memory fault said is = rw is tt
run_refused n running line (refusal.Fault kind) fault said is = rw (is, said) refl

-- a session line without fault, and what it leads to
pub setup_leads : (n : ℕ) (said : SetupForm) (setup next : Setup) → setup_read said setup ≡ Ok next → Leads (Ok (is_run said)) n next (setup_form_read n said setup)
setup_leads n (form.File path context bytes) setup next is = rw is refl
setup_leads n (form.Directory path context) setup next is = rw is refl
setup_leads n (form.Client name context) setup next is = rw is refl
setup_leads n (form.Initial what context) setup next is = rw is refl
setup_leads n (form.Port port context) setup next is = rw is refl
setup_leads n form.Audit setup next is = rw is refl
setup_leads n form.Run setup next is = rw is refl

-- a session line that is refused
pub setup_fails : (n : ℕ) (said : SetupForm) (setup : Setup) (e : Refusal) → Fails e (setup_read said setup) → Fails e (setup_form_read n said setup)
setup_fails n said setup refusal.Memory is = tt
setup_fails n said setup (refusal.Fault kind) is = rw is refl
