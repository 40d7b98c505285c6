-- Who holds a pass, as a table that is kept line after line.
use Rattle.std.specs.Prelude.{◌≡◌, ℕ, ◌<◌, Bool, true, false, List, length, Option, Some, None, slice_get, slice_set}
use Rattle.std.specs.Option.{unwrap_or}
use Rattle.session_forms.specs.declared.run_forms.Manager.{Manager}
use Rattle.session_forms.specs.declared.run_forms.Manager.TheVariants as manager
use Rattle.session_text.specs.declared.passes.ClientPasses.{ClientPasses}
use Rattle.session_text.specs.declared.passes.PassChange.{PassChange}
use Rattle.session_text.specs.declared.session.Run.{Run}
use Rattle.session_text.specs.declared.session.Run.TheVariants.{Begin, End}
use Rattle.session_text.specs.declared.session.RunLine.{RunLine}
use Rattle.session_text.specs.Sessions.{is_held}

-- a client that holds no pass
abbrev pub no_pass : ClientPasses
no_pass = record { file = false; process = false; port = false }

-- a client holds a pass of a manager
abbrev pub has_pass : Manager → ClientPasses → Bool
has_pass manager.File passes = passes.file
has_pass manager.Process passes = passes.process
has_pass manager.Port passes = passes.port

-- a client with a pass of a manager, or without
abbrev pub with_pass : Manager → Bool → ClientPasses → ClientPasses
with_pass manager.File now passes = record { file = now; process = passes.process; port = passes.port }
with_pass manager.Process now passes = record { file = passes.file; process = now; port = passes.port }
with_pass manager.Port now passes = record { file = passes.file; process = passes.process; port = now }

-- the passes that a client holds, by its number
abbrev pub passes_of : List ClientPasses → ℕ → ClientPasses
passes_of held client = unwrap_or (slice_get held client) no_pass

-- the table in which a client has a pass of a manager, or has it no more
abbrev pub with_change : List ClientPasses → ℕ → Manager → Bool → List ClientPasses
with_change held client of now = slice_set held client (with_pass of now (passes_of held client))

-- the pass that a line takes or gives back, if any
abbrev pub change_of : Run → Option PassChange
change_of (Begin client of) = Some (record { client = client; manager = of; now = true })
change_of (End client of) = Some (record { client = client; manager = of; now = false })
change_of run = None

-- the table below a line that makes this change
abbrev pub noted : List ClientPasses → Option PassChange → List ClientPasses
noted held None = held
noted held (Some change) = with_change held change.client change.manager change.now

-- the client whose pass is taken or given back is one of so many
abbrev pub IsWithin : ℕ → Option PassChange → Type 0
IsWithin clients None = Unit {0}
IsWithin clients (Some change) = change.client < clients

-- the table has for each of so many clients the passes that it holds by these lines
pub record AreHeld (held : List ClientPasses) (clients : ℕ) (lines : List RunLine) : Type 0 where
  pub count : length held ≡ clients
  pub each : (client : ℕ) (of : Manager) → client < clients → has_pass of (passes_of held client) ≡ is_held lines client of
