-- What a line of a session text asks of the lines above it, and what it adds to them.
use Rattle.std.specs.Prelude.{◌≡◌, ℕ, Bool, true, false, ◌||◌, not, ◌==◌, nat_le, List, [], ◌∷◌, ◌++◌, length, Option, Some, None, Result, Ok, Err, if◌then◌else◌, codes}
use Rattle.std.specs.Str.{bytes_eq}
use Rattle.flask_sid.specs.Names.{is_name_form, is_long}
use Rattle.flask_sid.specs.Contexts.{is_long_context}
use Rattle.flask_sid.specs.declared.context.ContextOf.{ContextOf}
use Rattle.text_lines.specs.declared.fault.FaultKind.{FaultKind}
use Rattle.text_lines.specs.declared.fault.FaultKind.TheVariants.{Syntax, Order, Limit, Unknown, Undeclared, Twice}
use Rattle.text_lines.specs.Lines.{line_words}
use Rattle.text_lines.specs.ResultSteps.{◌>>=◌, found_or}
use Rattle.file_calls.specs.Openings.{has_node, is_parent_there}
use Rattle.file_calls.specs.declared.call.FileCall.{FileCall}
use Rattle.file_calls.specs.declared.opening.Node.{Node}
use Rattle.process_calls.specs.declared.call.ProcessCall.{ProcessCall}
use Rattle.port_calls.specs.declared.call.PortCall.{PortCall}
use Rattle.session_forms.specs.PathForms.{is_long_path}
use Rattle.session_forms.specs.Ranges.{is_long_data, is_past_place}
use Rattle.session_forms.specs.FirstFaults.{both}
use Rattle.session_forms.specs.Arguments.{is_end, of_one}
use Rattle.session_forms.specs.ArgumentTypes.{value_of, version_of}
use Rattle.session_forms.specs.RunForms.{manager_of}
use Rattle.session_forms.specs.declared.run_forms.Manager.{Manager}
use Rattle.session_forms.specs.declared.run_forms.Manager.TheVariants as manager
use Rattle.session_forms.specs.declared.setup_forms.Initial.{Initial}
use Rattle.session_forms.specs.declared.setup_forms.Initial.TheVariants.{Root, Ports}
use Rattle.session_text.specs.declared.session.ClientLine.{ClientLine}
use Rattle.session_text.specs.declared.session.Run.{Run}
use Rattle.session_text.specs.declared.session.Run.TheVariants.{File, Process, Port, Begin, End, Notify, Update, Ack, Force}
use Rattle.session_text.specs.declared.session.SessionParts.{SessionParts}
use Rattle.session_text.specs.Above.{node_limit, port_limit, client_limit, context_sid, client_number, has_client, has_port}
use Rattle.session_text.specs.Calls.{client_of, file_call, process_call, port_call}
use Rattle.session_text.specs.Sessions.{is_held}

-- the bytes of a file: none without a datum
abbrev pub data_bytes : Option (List ℕ) → List ℕ
data_bytes None = []
data_bytes (Some bytes) = bytes

-- a session with the root's context
abbrev pub with_root : ℕ → SessionParts → SessionParts
with_root sid session = record session { root = sid }

-- a session with the context of ports without a line
abbrev pub with_initial_port : ℕ → SessionParts → SessionParts
with_initial_port sid session = record session { port = sid }

-- a session whose audit lines are printed
abbrev pub with_audit : SessionParts → SessionParts
with_audit session = record session { audit = true }

-- a session with one port more that has a context of its own
abbrev pub with_port : ℕ → ℕ → SessionParts → SessionParts
with_port number sid session = record session { ports = session.ports ++ record { port = number; sid = sid } ∷ [] }

-- a session with one node more: a file with bytes, or a directory without
abbrev pub with_node : List (List ℕ) → ℕ → Option (List ℕ) → SessionParts → SessionParts
with_node path sid bytes session =
    record session { nodes = session.nodes ++ record { path = path; sid = sid; bytes = bytes } ∷ [] }

-- a session with one client more
abbrev pub with_client : List ℕ → ℕ → SessionParts → SessionParts
with_client name sid session = record session { clients = session.clients ++ record { name = name; sid = sid } ∷ [] }

-- a session with one line more
abbrev pub with_line : ℕ → Run → SessionParts → SessionParts
with_line n run session = record session { lines = session.lines ++ record { line = n; run = run } ∷ [] }

-- a `dir` or `file` line past a limit, below so many nodes
unfoldable pub is_past_node : List (List ℕ) → ContextOf (List ℕ) → ℕ → Bool
is_past_node path context nodes = is_long_path path || is_long_context context || nat_le node_limit nodes

-- a path that a node has, or the root
unfoldable pub is_taken : List Node → List (List ℕ) → Bool
is_taken nodes path = length path == 0 || has_node nodes path

-- the identifier of a node that is to stand at a path: its directory is there, and the path is free
unfoldable pub node_sid : List (List ℕ) → ContextOf (List ℕ) → SessionParts → Result ℕ FaultKind
node_sid path context session =
    if not (is_parent_there session.nodes path) then Err Unknown
    else found_or Undeclared (context_sid session.policy.contexts context) >>= λ sid. placed sid
  where
    placed : ℕ → Result ℕ FaultKind
    placed sid = if is_taken session.nodes path then Err Twice else Ok sid

-- a `file` line
unfoldable pub file_read : List (List ℕ) → ContextOf (List ℕ) → Option (List ℕ) → SessionParts → Result SessionParts FaultKind
file_read path context bytes session =
    if is_past_node path context (length session.nodes) || is_long_data bytes then Err Limit
    else node_sid path context session >>= λ sid. Ok (with_node path sid (Some (data_bytes bytes)) session)

-- a `dir` line
unfoldable pub directory_read : List (List ℕ) → ContextOf (List ℕ) → SessionParts → Result SessionParts FaultKind
directory_read path context session =
    if is_past_node path context (length session.nodes) then Err Limit
    else node_sid path context session >>= λ sid. Ok (with_node path sid None session)

-- a `client` line past a limit, below so many clients
unfoldable pub is_past_client : List ℕ → ContextOf (List ℕ) → ℕ → Bool
is_past_client name context clients = is_long name || is_long_context context || nat_le client_limit clients

-- a name that a client has, or the administrator's
unfoldable pub is_named : List ClientLine → List ℕ → Bool
is_named clients name = bytes_eq name (codes "admin") || has_client clients name

-- the identifier of a client that is to have a name: the name is free
unfoldable pub client_sid : List ℕ → ContextOf (List ℕ) → SessionParts → Result ℕ FaultKind
client_sid name context session = found_or Undeclared (context_sid session.policy.contexts context) >>= λ sid. named sid
  where
    named : ℕ → Result ℕ FaultKind
    named sid = if is_named session.clients name then Err Twice else Ok sid

-- a `client` line
unfoldable pub client_read : List ℕ → ContextOf (List ℕ) → SessionParts → Result SessionParts FaultKind
client_read name context session =
    if is_past_client name context (length session.clients) then Err Limit
    else client_sid name context session >>= λ sid. Ok (with_client name sid session)

-- what session lines said so far: the session, and whose context an `initial` line gave
pub record Setup : Type 0 where
  pub session : SessionParts
  pub root_given : Bool
  pub port_given : Bool

-- with another session
abbrev pub set_up : Setup → SessionParts → Setup
set_up setup session = record { session = session; root_given = setup.root_given; port_given = setup.port_given }

-- whose context a declared one is to be: the root's or that of the ports, where no line gave it yet
unfoldable pub initial_with : Initial → ℕ → Setup → Result Setup FaultKind
initial_with Root sid setup =
    if setup.root_given then Err Twice
    else Ok (record { session = with_root sid setup.session; root_given = true; port_given = setup.port_given })
initial_with Ports sid setup =
    if setup.port_given then Err Twice
    else Ok (record { session = with_initial_port sid setup.session; root_given = setup.root_given; port_given = true })

-- an `initial` line
unfoldable pub initial_read : Initial → ContextOf (List ℕ) → Setup → Result Setup FaultKind
initial_read what context setup =
    if is_long_context context then Err Limit
    else found_or Undeclared (context_sid setup.session.policy.contexts context) >>= λ sid. initial_with what sid setup

-- an `audit` line
unfoldable pub audit_read : SessionParts → Result SessionParts FaultKind
audit_read session = if session.audit then Err Twice else Ok (with_audit session)

-- a `port` line past a limit, below so many of them
unfoldable pub is_past_port_line : ℕ → ContextOf (List ℕ) → ℕ → Bool
is_past_port_line number context ports = is_past_place number || is_long_context context || nat_le port_limit ports

-- a declared context is to be that of a port, where it has none of its own yet
unfoldable pub port_with : ℕ → ℕ → SessionParts → Result SessionParts FaultKind
port_with number sid session = if has_port session.ports number then Err Twice else Ok (with_port number sid session)

-- a `port` line
unfoldable pub port_read : ℕ → ContextOf (List ℕ) → SessionParts → Result SessionParts FaultKind
port_read number context session =
    if is_past_port_line number context (length session.ports) then Err Limit
    else found_or Undeclared (context_sid session.policy.contexts context) >>= λ sid. port_with number sid session

-- a client of that name holds a pass of that manager by the lines above; one that was not declared holds none
unfoldable pub holds : Manager → SessionParts → List ℕ → Bool
holds manager session name = number_holds (client_number session.clients name)
  where
    number_holds : Option ℕ → Bool
    number_holds None = false
    number_holds (Some client) = is_held session.lines client manager

-- a client's call: what is wrong with the client and with the call is told by the kind that is asked first
abbrev pub file_run : Result ℕ FaultKind → Result FileCall FaultKind → Result Run FaultKind
file_run client call = both client call >>= λ said. Ok (File said.0 said.1)

abbrev pub process_run : Result ℕ FaultKind → Result ProcessCall FaultKind → Result Run FaultKind
process_run client call = both client call >>= λ said. Ok (Process said.0 said.1)

abbrev pub port_run : Result ℕ FaultKind → Result PortCall FaultKind → Result Run FaultKind
port_run client call = both client call >>= λ said. Ok (Port said.0 said.1)

-- a call of a manager by the client of that name
unfoldable pub call_run : SessionParts → List ℕ → Manager → List ℕ → List (List ℕ) → Result Run FaultKind
call_run session name manager.File call words =
    file_run (client_of session.clients name) (file_call session.policy.contexts session.clients call words)
call_run session name manager.Process call words =
    process_run (client_of session.clients name) (process_call session.policy.contexts call words)
call_run session name manager.Port call words = port_run (client_of session.clients name) (port_call call words)

-- what stands alone in its line, with no word left
abbrev pub alone : List (List ℕ) → Run → Result Run FaultKind
alone words run = if is_end words then Ok run else Err Syntax

-- a client takes a pass of a manager, of which it holds none
unfoldable pub begin_run : SessionParts → List ℕ → Manager → List (List ℕ) → Result Run FaultKind
begin_run session name manager words =
    if not (is_end words) then Err Syntax
    else if holds manager session name then Err Order
    else client_of session.clients name >>= λ client. Ok (Begin client manager)

-- a client gives back the pass of a manager that it holds
unfoldable pub end_run : SessionParts → List ℕ → Manager → List (List ℕ) → Result Run FaultKind
end_run session name manager words =
    if not (is_end words) then Err Syntax
    else if not (holds manager session name) then Err Order
    else client_of session.clients name >>= λ client. Ok (End client manager)

-- what the client of that name asks of a manager: a pass, to give it back, or a call
unfoldable pub asked_run : SessionParts → List ℕ → Manager → List (List ℕ) → Result Run FaultKind
asked_run session name manager [] = Err Syntax
asked_run session name manager (call ∷ words) =
    if bytes_eq call (codes "begin") then begin_run session name manager words
    else if bytes_eq call (codes "end") then end_run session name manager words
    else call_run session name manager call words

-- a line of the client of that name: a manager, and what is asked of it
unfoldable pub client_run : SessionParts → List ℕ → List (List ℕ) → Result Run FaultKind
client_run session name [] = Err Syntax
client_run session name (word ∷ words) = found_or Syntax (manager_of word) >>= λ manager. asked_run session name manager words

-- behind the client's name stand the manager that it asks and the word of what it asks, or the line is faulty
abbrev pub IsAskedBy : Result (Manager × List ℕ) FaultKind → List ℕ → List (List ℕ) → List (List ℕ) → Type 0
IsAskedBy asked name words below =
    (session : SessionParts) → (if is_name_form name then client_run session name words else Err Syntax) ≡ (asked >>= λ said. asked_run session name said.0 (said.1 ∷ below))

-- a line of the administrator
unfoldable pub admin_run : List (List ℕ) → Result Run FaultKind
admin_run [] = Err Syntax
admin_run (what ∷ words) =
    if bytes_eq what (codes "notify") then (of_one version_of words >>= λ ver. Ok (Notify ver))
    else if bytes_eq what (codes "update") then (of_one value_of words >>= λ most. Ok (Update most))
    else if bytes_eq what (codes "ack") then alone words Ack
    else if bytes_eq what (codes "force") then alone words Force
    else Err Syntax

-- what a line that runs asks, by its first word
unfoldable pub run_of : SessionParts → List ℕ → List (List ℕ) → Result Run FaultKind
run_of session first words =
    if bytes_eq first (codes "admin") then admin_run words
    else if is_name_form first then client_run session first words
    else Err Syntax

-- what a line that runs says, if anything
unfoldable pub run_words_read : ℕ → List (List ℕ) → SessionParts → Result SessionParts FaultKind
run_words_read n [] session = Ok session
run_words_read n (first ∷ words) session = run_of session first words >>= λ run. Ok (with_line n run session)

-- line number n, which runs
unfoldable pub run_line_read : ℕ → List ℕ → SessionParts → Result SessionParts FaultKind
run_line_read n line session = line_words n line >>= λ words. run_words_read n words session
