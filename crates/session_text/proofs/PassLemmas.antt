-- The table of held passes, line after line.
use Rattle.std.proofs.Common.{◌≡◌, ◌<◌, ◌∙◌, ℕ, Bool, true, false, cond, List, [], ◌∷◌, ◌++◌, Some, length, get_or, replicate, refl, sym, arith}
use Rattle.std.specs.Prelude.{◌≢◌, ◌&&◌, ◌==◌}
use Rattle.std.proofs.lemmas.Bool.Decides.{nat_tests}
use Rattle.std.proofs.lemmas.List.{get_or-set_same, get_or-set_other, length-set, length-replicate, get_or-replicate}
use Rattle.std.proofs.lemmas.Option.{unwrap_or-slice_get}
use Rattle.session_forms.specs.declared.run_forms.Manager.{Manager}
use Rattle.session_forms.specs.declared.run_forms.Manager.TheVariants as manager
use Rattle.session_text.specs.declared.passes.ClientPasses.{ClientPasses}
use Rattle.session_text.specs.declared.session.Run.{Run}
use Rattle.session_text.specs.declared.session.Run.TheVariants.{File, Process, Port, Begin, End, Notify, Update, Ack, Force}
use Rattle.session_text.specs.declared.session.RunLine.{RunLine}
use Rattle.session_text.specs.declared.session.SessionParts.{SessionParts}
use Rattle.session_text.specs.Sessions.{IsSidOf, IsRun, same_manager, held_below, held_after, is_held}
use Rattle.session_text.specs.Above.{client_number}
use Rattle.session_text.specs.Grammar.{holds}
use Rattle.session_text.specs.Passes.{no_pass, has_pass, with_pass, passes_of, with_change, change_of, noted, IsWithin, AreHeld}

-- the last line decides over those above it
held_last : (above : Bool) (lines : List RunLine) (line : RunLine) (client : ℕ) (of : Manager) → held_after above (lines ++ line ∷ []) client of ≡ held_below (held_after above lines client of) line.run client of
held_last above [] line client of = refl
held_last above (first ∷ lines) line client of = held_last (held_below above first.run client of) lines line client of

pub is_held_last : (lines : List RunLine) (line : RunLine) (client : ℕ) (of : Manager) → is_held (lines ++ line ∷ []) client of ≡ held_below (is_held lines client of) line.run client of
is_held_last lines line client of = held_last false lines line client of

-- a pass that is taken or given back is that of one manager
changed : (of asked : Manager) (now : Bool) (passes : ClientPasses) → has_pass asked (with_pass of now passes) ≡ cond (same_manager of asked) now (has_pass asked passes)
changed manager.File manager.File now passes = refl
changed manager.File manager.Process now passes = refl
changed manager.File manager.Port now passes = refl
changed manager.Process manager.File now passes = refl
changed manager.Process manager.Process now passes = refl
changed manager.Process manager.Port now passes = refl
changed manager.Port manager.File now passes = refl
changed manager.Port manager.Process now passes = refl
changed manager.Port manager.Port now passes = refl

-- a pass of a client is changed where it is the client's and the manager's
changed_pass : (held : List ClientPasses) (client other : ℕ) (of asked : Manager) (now : Bool) → client < length held → has_pass asked (passes_of (with_change held client of now) other) ≡ cond (client == other && same_manager of asked) now (has_pass asked (passes_of held other))
changed_pass held client other of asked now within = by_row (client == other) refl
  where
    by_row : (same : Bool) → (client == other) ≡ same → has_pass asked (passes_of (with_change held client of now) other) ≡ cond (same && same_manager of asked) now (has_pass asked (passes_of held other))
    by_row true is =
        let one : client ≡ other = grind (arith, nat_tests) in
        let there : get_or (with_change held client of now) client no_pass ≡ with_pass of now (passes_of held client) = get_or-set_same held client (with_pass of now (passes_of held client)) no_pass within in
        rw (← one, unwrap_or-slice_get (with_change held client of now) client no_pass, there) (changed of asked now (passes_of held client))
    by_row false is =
        let other_is : other ≢ client = grind (arith, nat_tests) in
        rw (unwrap_or-slice_get (with_change held client of now) other no_pass, get_or-set_other held client other (with_pass of now (passes_of held client)) no_pass other_is, ← unwrap_or-slice_get held other no_pass) refl

-- who holds a pass of which manager, below a line that takes one or gives it back
change_held : (held : List ClientPasses) (clients : ℕ) (lines : List RunLine) (line : RunLine) (client : ℕ) (of : Manager) (now : Bool) → AreHeld held clients lines → client < clients
    → ((above : Bool) (other : ℕ) (asked : Manager) → held_below above line.run other asked ≡ cond (client == other && same_manager of asked) now above)
    → AreHeld (with_change held client of now) clients (lines ++ line ∷ [])
change_held held clients lines line client of now are within says =
    record {
      count = rw (length-set held client (with_pass of now (passes_of held client))) are.count;
      each = λ other asked below.
          let changes = changed_pass held client other of asked now (rw are.count within) in
          let last = is_held_last lines line other asked in
          rw (changes, last, says (is_held lines other asked) other asked, are.each other asked below) refl;
    }

-- a line that takes no pass and gives none back
keep_held : (held : List ClientPasses) (clients : ℕ) (lines : List RunLine) (line : RunLine) → AreHeld held clients lines → ((above : Bool) (other : ℕ) (asked : Manager) → held_below above line.run other asked ≡ above) → AreHeld held clients (lines ++ line ∷ [])
keep_held held clients lines line are says =
    record {
      count = are.count;
      each = λ other asked below.
          let last = is_held_last lines line other asked in
          rw (last, says (is_held lines other asked) other asked, are.each other asked below) refl;
    }

-- the table is that of the lines, with one line more
pub noted_held : (held : List ClientPasses) (clients : ℕ) (lines : List RunLine) (n : ℕ) (run : Run) → AreHeld held clients lines → IsWithin clients (change_of run) → AreHeld (noted held (change_of run)) clients (lines ++ record { line = n; run = run } ∷ [])
noted_held held clients lines n (Begin client of) are within = change_held held clients lines (record { line = n; run = Begin client of }) client of true are within (λ above other asked. refl)
noted_held held clients lines n (End client of) are within = change_held held clients lines (record { line = n; run = End client of }) client of false are within (λ above other asked. refl)
noted_held held clients lines n (File client said) are within = keep_held held clients lines (record { line = n; run = File client said }) are (λ above other asked. refl)
noted_held held clients lines n (Process client said) are within = keep_held held clients lines (record { line = n; run = Process client said }) are (λ above other asked. refl)
noted_held held clients lines n (Port client said) are within = keep_held held clients lines (record { line = n; run = Port client said }) are (λ above other asked. refl)
noted_held held clients lines n (Notify ver) are within = keep_held held clients lines (record { line = n; run = Notify ver }) are (λ above other asked. refl)
noted_held held clients lines n (Update most) are within = keep_held held clients lines (record { line = n; run = Update most }) are (λ above other asked. refl)
noted_held held clients lines n Ack are within = keep_held held clients lines (record { line = n; run = Ack }) are (λ above other asked. refl)
noted_held held clients lines n Force are within = keep_held held clients lines (record { line = n; run = Force }) are (λ above other asked. refl)

-- the client of a line that may stand is within the table
pub run_within : (known : ℕ → Type 0) (clients : ℕ) (run : Run) → IsRun known clients run → IsWithin clients (change_of run)
run_within known clients (Begin client of) is = is
run_within known clients (End client of) is = is
run_within known clients (File client said) is = tt
run_within known clients (Process client said) is = tt
run_within known clients (Port client said) is = tt
run_within known clients (Notify ver) is = tt
run_within known clients (Update most) is = tt
run_within known clients Ack is = tt
run_within known clients Force is = tt

-- a table that is kept for a session, and for the session with one line more
pub line_noted : (held : List ClientPasses) (session : SessionParts) (n : ℕ) (run : Run) → AreHeld held (length session.clients) session.lines → IsRun (IsSidOf session.policy.contexts) (length session.clients) run → AreHeld (noted held (change_of run)) (length session.clients) (session.lines ++ record { line = n; run = run } ∷ [])
line_noted held session n run are may = noted_held held (length session.clients) session.lines n run are (run_within (IsSidOf session.policy.contexts) (length session.clients) run may)

-- no client holds a pass before the first line
no_pass_held : (of : Manager) → has_pass of no_pass ≡ false
no_pass_held manager.File = refl
no_pass_held manager.Process = refl
no_pass_held manager.Port = refl

pub none_held : (clients : ℕ) → AreHeld (replicate clients no_pass) clients []
none_held clients =
    record {
      count = length-replicate clients no_pass;
      each = λ client of below. rw (unwrap_or-slice_get (replicate clients no_pass) client no_pass, get_or-replicate clients client no_pass no_pass below) (no_pass_held of);
    }

-- who holds a pass by the lines, told by the number of its name
pub holds_as : (session : SessionParts) (name : List ℕ) (client : ℕ) (of : Manager) → client_number session.clients name ≡ Some client → holds of session name ≡ is_held session.lines client of
unfolding holds
holds_as session name client of named = rw named refl

-- the same, by the table
pub held_says : (held : List ClientPasses) (session : SessionParts) (name : List ℕ) (client : ℕ) (of : Manager) → AreHeld held (length session.clients) session.lines → client < length session.clients → Some client ≡ client_number session.clients name → has_pass of (passes_of held client) ≡ holds of session name
held_says held session name client of are within named = are.each client of within ∙ sym (holds_as session name client of (sym named))
