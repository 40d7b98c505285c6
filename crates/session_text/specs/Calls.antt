-- The table of calls: the words of each call behind its name, and the call that they make. The first kind of fault of them is told.
use Rattle.std.specs.Prelude.{ℕ, List, Result, Ok, Err, if◌then◌else◌}
use Rattle.std.specs.Str.{bytes_eq}
use Rattle.flask_sid.specs.Names.{is_name_form, is_long}
use Rattle.flask_sid.specs.Contexts.{context_form, is_long_context}
use Rattle.flask_sid.specs.declared.context.ContextOf.{ContextOf}
use Rattle.text_lines.specs.declared.fault.FaultKind.{FaultKind}
use Rattle.text_lines.specs.declared.fault.FaultKind.TheVariants.{Syntax, Limit, Unknown, Undeclared}
use Rattle.text_lines.specs.ResultSteps.{◌>>=◌, found_or}
use Rattle.policy_model.specs.declared.policy.ContextLine.{ContextLine}
use Rattle.file_calls.specs.declared.call.FileCall.{FileCall}
use Rattle.file_calls.specs.declared.call.FileCall.TheVariants as file
use Rattle.process_calls.specs.declared.call.ProcessCall.{ProcessCall}
use Rattle.process_calls.specs.declared.call.ProcessCall.TheVariants as process
use Rattle.port_calls.specs.declared.call.PortCall.{PortCall}
use Rattle.port_calls.specs.declared.call.PortCall.TheVariants as port
use Rattle.session_forms.specs.Arguments.{of_one, of_two, of_three}
use Rattle.session_forms.specs.ArgumentTypes.{slot_of, offset_of, length_of, skip_of, pid_of, signal_of, code_of, value_of, port_of, datum_of, path_of, entry_of, mode_of, bind_mode_of, connect_mode_of}
use Rattle.session_forms.specs.CallNames as name
use Rattle.session_text.specs.Above.{context_sid, client_number}
use Rattle.session_text.specs.declared.session.ClientLine.{ClientLine}

-- the identifier of a context that is not too long and is declared
abbrev pub declared_sid : List ContextLine → ContextOf (List ℕ) → Result ℕ FaultKind
declared_sid contexts context = if is_long_context context then Err Limit else found_or Undeclared (context_sid contexts context)

-- a context, by its identifier
unfoldable pub context_of : List ContextLine → List ℕ → Result ℕ FaultKind
context_of contexts word = found_or Syntax (context_form word) >>= λ context. declared_sid contexts context

-- a client, by its number: its name is not too long, and is declared
unfoldable pub client_of : List ClientLine → List ℕ → Result ℕ FaultKind
client_of clients word = if is_long word then Err Limit else found_or Unknown (client_number clients word)

-- the receiver of a slot: a client, where the word has the form of a name
unfoldable pub receiver_of : List ClientLine → List ℕ → Result ℕ FaultKind
receiver_of clients word = if is_name_form word then client_of clients word else Err Syntax

-- `open SLOT PATH MODE`
abbrev pub open_call : List (List ℕ) → Result FileCall FaultKind
open_call words = of_three slot_of path_of mode_of words >>= λ said. Ok (file.OpenFile said.0 said.1.0 said.1.1)

-- `read SLOT OFFSET LENGTH`
abbrev pub read_call : List (List ℕ) → Result FileCall FaultKind
read_call words = of_three slot_of offset_of length_of words >>= λ said. Ok (file.ReadFile said.0 said.1.0 said.1.1)

-- `write SLOT OFFSET DATA`
abbrev pub write_call : List (List ℕ) → Result FileCall FaultKind
write_call words = of_three slot_of offset_of datum_of words >>= λ said. Ok (file.WriteFile said.0 said.1.0 said.1.1)

-- `append SLOT DATA`
abbrev pub append_call : List (List ℕ) → Result FileCall FaultKind
append_call words = of_two slot_of datum_of words >>= λ said. Ok (file.AppendFile said.0 said.1)

-- `close SLOT`
abbrev pub close_call : List (List ℕ) → Result FileCall FaultKind
close_call words = of_one slot_of words >>= λ slot. Ok (file.CloseFile slot)

-- `list PATH SKIP`
abbrev pub list_call : List (List ℕ) → Result FileCall FaultKind
list_call words = of_two path_of skip_of words >>= λ said. Ok (file.List said.0 said.1)

-- `relabel PATH CONTEXT`
abbrev pub relabel_call : List ContextLine → List (List ℕ) → Result FileCall FaultKind
relabel_call contexts words = of_two path_of (context_of contexts) words >>= λ said. Ok (file.Relabel said.0 said.1)

-- `give SLOT CLIENT SLOT`
abbrev pub give_call : List ClientLine → List (List ℕ) → Result FileCall FaultKind
give_call clients words = of_three slot_of (receiver_of clients) slot_of words >>= λ said. Ok (file.Give said.0 said.1.0 said.1.1)

-- the calls of the file manager: PATH, where it is alone, is below the root but for `stat`
unfoldable pub file_call : List ContextLine → List ClientLine → List ℕ → List (List ℕ) → Result FileCall FaultKind
file_call contexts clients call words =
    if bytes_eq call name.mkdir then (of_one entry_of words >>= λ path. Ok (file.Mkdir path))
    else if bytes_eq call name.create then (of_one entry_of words >>= λ path. Ok (file.Create path))
    else if bytes_eq call name.open_file then open_call words
    else if bytes_eq call name.read_file then read_call words
    else if bytes_eq call name.write_file then write_call words
    else if bytes_eq call name.append_file then append_call words
    else if bytes_eq call name.close_file then close_call words
    else if bytes_eq call name.unlink then (of_one entry_of words >>= λ path. Ok (file.Unlink path))
    else if bytes_eq call name.list then list_call words
    else if bytes_eq call name.stat then (of_one path_of words >>= λ path. Ok (file.StatFile path))
    else if bytes_eq call name.relabel then relabel_call contexts words
    else if bytes_eq call name.give then give_call clients words
    else Err Syntax

-- `exec PID CONTEXT`
abbrev pub exec_call : List ContextLine → List (List ℕ) → Result ProcessCall FaultKind
exec_call contexts words = of_two pid_of (context_of contexts) words >>= λ said. Ok (process.Exec said.0 said.1)

-- `signal PID NUMBER`
abbrev pub signal_call : List (List ℕ) → Result ProcessCall FaultKind
signal_call words = of_two pid_of signal_of words >>= λ said. Ok (process.Signal said.0 said.1)

-- `exit PID CODE`
abbrev pub exit_call : List (List ℕ) → Result ProcessCall FaultKind
exit_call words = of_two pid_of code_of words >>= λ said. Ok (process.Exit said.0 said.1)

-- `attach SLOT PID`
abbrev pub attach_call : List (List ℕ) → Result ProcessCall FaultKind
attach_call words = of_two slot_of pid_of words >>= λ said. Ok (process.Attach said.0 said.1)

-- `poke SLOT VALUE`
abbrev pub poke_call : List (List ℕ) → Result ProcessCall FaultKind
poke_call words = of_two slot_of value_of words >>= λ said. Ok (process.Poke said.0 said.1)

-- the calls of the process manager
unfoldable pub process_call : List ContextLine → List ℕ → List (List ℕ) → Result ProcessCall FaultKind
process_call contexts call words =
    if bytes_eq call name.fork then (of_one pid_of words >>= λ pid. Ok (process.Fork pid))
    else if bytes_eq call name.exec then exec_call contexts words
    else if bytes_eq call name.signal then signal_call words
    else if bytes_eq call name.exit then exit_call words
    else if bytes_eq call name.wait then (of_one pid_of words >>= λ pid. Ok (process.Wait pid))
    else if bytes_eq call name.attach then attach_call words
    else if bytes_eq call name.peek then (of_one slot_of words >>= λ slot. Ok (process.Peek slot))
    else if bytes_eq call name.poke then poke_call words
    else if bytes_eq call name.detach then (of_one slot_of words >>= λ slot. Ok (process.Detach slot))
    else if bytes_eq call name.stat then (of_one pid_of words >>= λ pid. Ok (process.StatProcess pid))
    else Err Syntax

-- `bind SLOT PORT MODE`
abbrev pub bind_call : List (List ℕ) → Result PortCall FaultKind
bind_call words = of_three slot_of port_of bind_mode_of words >>= λ said. Ok (port.Bind said.0 said.1.0 said.1.1)

-- `connect SLOT PORT MODE`
abbrev pub connect_call : List (List ℕ) → Result PortCall FaultKind
connect_call words = of_three slot_of port_of connect_mode_of words >>= λ said. Ok (port.Connect said.0 said.1.0 said.1.1)

-- `push SLOT DATA`
abbrev pub push_call : List (List ℕ) → Result PortCall FaultKind
push_call words = of_two slot_of datum_of words >>= λ said. Ok (port.Push said.0 said.1)

-- `send PORT DATA`
abbrev pub send_call : List (List ℕ) → Result PortCall FaultKind
send_call words = of_two port_of datum_of words >>= λ said. Ok (port.Send said.0 said.1)

-- the calls of the port manager
unfoldable pub port_call : List ℕ → List (List ℕ) → Result PortCall FaultKind
port_call call words =
    if bytes_eq call name.bind then bind_call words
    else if bytes_eq call name.recv then (of_one slot_of words >>= λ slot. Ok (port.Recv slot))
    else if bytes_eq call name.connect then connect_call words
    else if bytes_eq call name.push then push_call words
    else if bytes_eq call name.send then send_call words
    else if bytes_eq call name.unbind then (of_one slot_of words >>= λ slot. Ok (port.Unbind slot))
    else if bytes_eq call name.stat then (of_one port_of words >>= λ at. Ok (port.StatPort at))
    else Err Syntax
