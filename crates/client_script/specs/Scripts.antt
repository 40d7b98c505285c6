-- The scripts of a session's clients, and what their lines do at each manager.
use Rattle.std.specs.Prelude.{◌≡◌, ℕ, ◌==◌, Bool, false, not, List, [], ◌∷◌, ◌++◌, Option, Some, None, is_some}
use Rattle.std.specs.List.{filter}
use Rattle.manager_history.specs.declared.entry.Entry.{Entry}
use Rattle.client_acts.specs.Acts.{Act, Take, Give, Do, Leads}
use Rattle.file_calls.specs.declared.call.FileCall.{FileCall}
use Rattle.process_calls.specs.declared.call.ProcessCall.{ProcessCall}
use Rattle.port_calls.specs.declared.call.PortCall.{PortCall}
use Rattle.session_forms.specs.declared.run_forms.Manager.TheVariants as manager
use Rattle.session_text.specs.declared.session.Run.{Run}
use Rattle.session_text.specs.declared.session.Run.TheVariants as run
use Rattle.session_text.specs.declared.session.RunLine.{RunLine}

-- whose line it is: a client's, or else the administrator's
abbrev pub owner_of : Run → Option ℕ
owner_of (run.File who call) = Some who
owner_of (run.Process who call) = Some who
owner_of (run.Port who call) = Some who
owner_of (run.Begin who of) = Some who
owner_of (run.End who of) = Some who
owner_of asks = None

-- it is this client's
abbrev pub is_owner : ℕ → Option ℕ → Bool
is_owner client None = false
is_owner client (Some who) = who == client

-- a line is this client's, or the administrator's
abbrev pub is_by : ℕ → RunLine → Bool
is_by client line = is_owner client (owner_of line.run)

abbrev pub is_of_admin : RunLine → Bool
is_of_admin line = not (is_some (owner_of line.run))

-- a client's script: its lines, in their order
abbrev pub script_of : ℕ → List RunLine → List RunLine
script_of client lines = filter (is_by client) lines

-- the administrator's script
abbrev pub admin_script : List RunLine → List RunLine
admin_script lines = filter is_of_admin lines

-- what a line does at the manager of files, of processes, and of ports: the mark of a call is the number of its line
abbrev pub file_act : ℕ → Run → List (Act FileCall)
file_act mark (run.File who call) = Do mark call ∷ []
file_act mark (run.Begin who manager.File) = Take ∷ []
file_act mark (run.End who manager.File) = Give ∷ []
file_act mark asks = []

abbrev pub process_act : ℕ → Run → List (Act ProcessCall)
process_act mark (run.Process who call) = Do mark call ∷ []
process_act mark (run.Begin who manager.Process) = Take ∷ []
process_act mark (run.End who manager.Process) = Give ∷ []
process_act mark asks = []

abbrev pub port_act : ℕ → Run → List (Act PortCall)
port_act mark (run.Port who call) = Do mark call ∷ []
port_act mark (run.Begin who manager.Port) = Take ∷ []
port_act mark (run.End who manager.Port) = Give ∷ []
port_act mark asks = []

-- what lines do there, by what each does
abbrev pub acts_by : {Call : Type 0} → (ℕ → Run → List (Act Call)) → List RunLine → List (Act Call)
acts_by act [] = []
acts_by act (line ∷ lines) = act line.line line.run ++ acts_by act lines

-- the entries are those of a whole script at a manager, by what a line does there
abbrev pub IsWhole : {Call Reply : Type 0} → (ℕ → Run → List (Act Call)) → ℕ → List RunLine → List (Entry Call Reply) → Type 0
IsWhole act client lines entries = Leads client None 0 (acts_by act lines) entries

-- the entries are those of a front of a script
pub record IsFrontOf {Call Reply : Type 0} (act : ℕ → Run → List (Act Call)) (client : ℕ) (lines : List RunLine) (entries : List (Entry Call Reply)) : Type 0 where
  pub front : List (Act Call)
  pub rest : List (Act Call)
  pub split : acts_by act lines ≡ front ++ rest
  pub leads : Leads client None 0 front entries
