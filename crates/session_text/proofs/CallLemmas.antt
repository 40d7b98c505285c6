-- A call that was read is one that a session may have.
use Rattle.std.proofs.Common.{◌≡◌, ◌<◌, ℕ, List, length, Ok, arith}
use Rattle.std.specs.Prelude.{IfOk}
use Rattle.std.specs.Str.{bytes_eq}
use Rattle.policy_model.specs.declared.policy.ContextLine.{ContextLine}
use Rattle.file_calls.specs.Formed.{IsCall, IsSlot, IsOffset, IsReadLength, IsSkip, IsPath, IsEntryPath, IsData, IsFileMode}
use Rattle.file_calls.specs.declared.call.FileCall.{FileCall}
use Rattle.file_calls.specs.declared.call.FileCall.TheVariants as file
use Rattle.process_calls.specs.Formed.{IsPid, IsSignal, IsCode}
use Rattle.process_calls.specs.Formed as process_formed
use Rattle.process_calls.specs.declared.call.ProcessCall.{ProcessCall}
use Rattle.process_calls.specs.declared.call.ProcessCall.TheVariants as process
use Rattle.port_calls.specs.Formed.{IsPort, IsBindMode, IsConnectMode}
use Rattle.port_calls.specs.Formed as port_formed
use Rattle.port_calls.specs.declared.call.PortCall.{PortCall}
use Rattle.port_calls.specs.declared.call.PortCall.TheVariants as port
use Rattle.text_lines.specs.ResultSteps.{◌>>=◌}
use Rattle.session_forms.specs.Arguments.{of_one}
use Rattle.session_forms.specs.ArgumentTypes.{slot_of, offset_of, length_of, skip_of, pid_of, signal_of, code_of, value_of, port_of, datum_of, path_of, entry_of, mode_of, bind_mode_of, connect_mode_of}
use Rattle.session_forms.specs.CallNames as name
use Rattle.session_forms.proofs.WordLemmas.{AreWords}
use Rattle.session_text.specs.Calls.{context_of, receiver_of, give_call, file_call, process_call, port_call}
use Rattle.session_text.specs.Sessions.{AreWordBytes, IsSidOf, IsDeclared, IsDeclaredProcess, IsFileWritten, IsProcessWritten, IsPortWritten}
use Rattle.session_text.specs.declared.session.ClientLine.{ClientLine}
use Rattle.session_text.proofs.ArgumentLemmas.{chosen, made_one, made_two, made_three, Reads, number_given, datum_given, path_given, entry_given, mode_given, bind_mode_given, connect_mode_given, context_given, receiver_given}

-- a value of 32 bits
abbrev IsValue : ℕ → Type 0
IsValue value = value < 4294967296

-- the numbers of the calls
slot_given : Reads IsSlot slot_of
slot_given = number_given 0 63 IsSlot (λ number low high. omega (arith, high))

offset_given : Reads IsOffset offset_of
offset_given = number_given 0 65536 IsOffset (λ number low high. high)

length_given : Reads IsReadLength length_of
length_given = number_given 1 1024 IsReadLength (λ number low high. (omega (arith, low), high))

skip_given : Reads IsSkip skip_of
skip_given = number_given 0 4096 IsSkip (λ number low high. high)

pid_given : Reads IsPid pid_of
pid_given = number_given 1 65535 IsPid (λ number low high. (omega (arith, low), omega (arith, high)))

signal_given : Reads IsSignal signal_of
signal_given = number_given 1 64 IsSignal (λ number low high. (omega (arith, low), high))

code_given : Reads IsCode code_of
code_given = number_given 0 255 IsCode (λ number low high. omega (arith, high))

value_given : Reads IsValue value_of
value_given = number_given 0 4294967295 IsValue (λ number low high. omega (arith, high))

port_given : Reads IsPort port_of
port_given = number_given 1 65535 IsPort (λ number low high. (omega (arith, low), omega (arith, high)))

-- a datum can be written
abbrev IsWritable : List ℕ → Type 0
IsWritable bytes = IsData bytes × AreWordBytes bytes

-- a call of the file manager that a session may have: what it names is declared, and what it carries can be written
abbrev pub IsAllowed : List ContextLine → List ClientLine → FileCall → Type 0
IsAllowed contexts clients said = IsCall said × IsDeclared (IsSidOf contexts) (length clients) said × IsFileWritten said

pub file_allowed : (contexts : List ContextLine) (clients : List ClientLine) (call : List ℕ) (words : List (List ℕ)) → AreWords words → IfOk (file_call contexts clients call words) (IsAllowed contexts clients)
unfolding file_call
file_allowed contexts clients call words are =
    chosen (IsAllowed contexts clients) (bytes_eq call name.mkdir) _ _ (made_one IsEntryPath (IsAllowed contexts clients) file.Mkdir entry_of words entry_given are (λ path entry. (entry, tt, tt)))
    (chosen (IsAllowed contexts clients) (bytes_eq call name.create) _ _ (made_one IsEntryPath (IsAllowed contexts clients) file.Create entry_of words entry_given are (λ path entry. (entry, tt, tt)))
    (chosen (IsAllowed contexts clients) (bytes_eq call name.open_file) _ _
    (made_three IsSlot IsPath IsFileMode (IsAllowed contexts clients) file.OpenFile slot_of path_of mode_of words slot_given path_given mode_given are (λ slot path mode one other last. ((one, other, last), tt, tt)))
    (chosen (IsAllowed contexts clients) (bytes_eq call name.read_file) _ _
    (made_three IsSlot IsOffset IsReadLength (IsAllowed contexts clients) file.ReadFile slot_of offset_of length_of words slot_given offset_given length_given are (λ slot offset most one other last. ((one, other, last), tt, tt)))
    (chosen (IsAllowed contexts clients) (bytes_eq call name.write_file) _ _
    (made_three IsSlot IsOffset IsWritable (IsAllowed contexts clients) file.WriteFile slot_of offset_of datum_of words slot_given offset_given datum_given are (λ slot offset bytes one other last. ((one, other, last.0), tt, last.1)))
    (chosen (IsAllowed contexts clients) (bytes_eq call name.append_file) _ _
    (made_two IsSlot IsWritable (IsAllowed contexts clients) file.AppendFile slot_of datum_of words slot_given datum_given are (λ slot bytes one other. ((one, other.0), tt, other.1)))
    (chosen (IsAllowed contexts clients) (bytes_eq call name.close_file) _ _ (made_one IsSlot (IsAllowed contexts clients) file.CloseFile slot_of words slot_given are (λ slot one. (one, tt, tt)))
    (chosen (IsAllowed contexts clients) (bytes_eq call name.unlink) _ _ (made_one IsEntryPath (IsAllowed contexts clients) file.Unlink entry_of words entry_given are (λ path entry. (entry, tt, tt)))
    (chosen (IsAllowed contexts clients) (bytes_eq call name.list) _ _
    (made_two IsPath IsSkip (IsAllowed contexts clients) file.List path_of skip_of words path_given skip_given are (λ path skip one other. ((one, other), tt, tt)))
    (chosen (IsAllowed contexts clients) (bytes_eq call name.stat) _ _ (made_one IsPath (IsAllowed contexts clients) file.StatFile path_of words path_given are (λ path one. (one, tt, tt)))
    (chosen (IsAllowed contexts clients) (bytes_eq call name.relabel) _ _
    (made_two IsPath (IsSidOf contexts) (IsAllowed contexts clients) file.Relabel path_of (context_of contexts) words path_given (context_given contexts) are (λ path sid one known. (one, known, tt)))
    (chosen (IsAllowed contexts clients) (bytes_eq call name.give) (give_call clients words) _
    (made_three IsSlot (λ (client : ℕ). client < length clients) IsSlot (IsAllowed contexts clients) file.Give slot_of (receiver_of clients) slot_of words slot_given (receiver_given clients) slot_given are (λ slot client target one known last. ((one, last), known, tt)))
    tt)))))))))))

-- a call of the process manager that a session may have
abbrev pub IsAllowedProcess : List ContextLine → ProcessCall → Type 0
IsAllowedProcess contexts said = process_formed.IsCall said × IsDeclaredProcess (IsSidOf contexts) said × IsProcessWritten said

pub process_allowed : (contexts : List ContextLine) (call : List ℕ) (words : List (List ℕ)) → AreWords words → IfOk (process_call contexts call words) (IsAllowedProcess contexts)
unfolding process_call
process_allowed contexts call words are =
    chosen (IsAllowedProcess contexts) (bytes_eq call name.fork) _ _ (made_one IsPid (IsAllowedProcess contexts) process.Fork pid_of words pid_given are (λ pid one. (one, tt, tt)))
    (chosen (IsAllowedProcess contexts) (bytes_eq call name.exec) _ _
    (made_two IsPid (IsSidOf contexts) (IsAllowedProcess contexts) process.Exec pid_of (context_of contexts) words pid_given (context_given contexts) are (λ pid sid one known. (one, known, tt)))
    (chosen (IsAllowedProcess contexts) (bytes_eq call name.signal) _ _
    (made_two IsPid IsSignal (IsAllowedProcess contexts) process.Signal pid_of signal_of words pid_given signal_given are (λ pid number one other. ((one, other), tt, tt)))
    (chosen (IsAllowedProcess contexts) (bytes_eq call name.exit) _ _
    (made_two IsPid IsCode (IsAllowedProcess contexts) process.Exit pid_of code_of words pid_given code_given are (λ pid code one other. ((one, other), tt, tt)))
    (chosen (IsAllowedProcess contexts) (bytes_eq call name.wait) _ _ (made_one IsPid (IsAllowedProcess contexts) process.Wait pid_of words pid_given are (λ pid one. (one, tt, tt)))
    (chosen (IsAllowedProcess contexts) (bytes_eq call name.attach) _ _
    (made_two IsSlot IsPid (IsAllowedProcess contexts) process.Attach slot_of pid_of words slot_given pid_given are (λ slot pid one other. ((one, other), tt, tt)))
    (chosen (IsAllowedProcess contexts) (bytes_eq call name.peek) _ _ (made_one IsSlot (IsAllowedProcess contexts) process.Peek slot_of words slot_given are (λ slot one. (one, tt, tt)))
    (chosen (IsAllowedProcess contexts) (bytes_eq call name.poke) _ _
    (made_two IsSlot IsValue (IsAllowedProcess contexts) process.Poke slot_of value_of words slot_given value_given are (λ slot value one other. (one, tt, other)))
    (chosen (IsAllowedProcess contexts) (bytes_eq call name.detach) _ _ (made_one IsSlot (IsAllowedProcess contexts) process.Detach slot_of words slot_given are (λ slot one. (one, tt, tt)))
    (chosen (IsAllowedProcess contexts) (bytes_eq call name.stat) (of_one pid_of words >>= λ pid. Ok (process.StatProcess pid)) _ (made_one IsPid (IsAllowedProcess contexts) process.StatProcess pid_of words pid_given are (λ pid one. (one, tt, tt)))
    tt)))))))))

-- a call of the port manager that a session may have
abbrev pub IsAllowedPort : PortCall → Type 0
IsAllowedPort said = port_formed.IsCall said × IsPortWritten said

pub port_allowed : (call : List ℕ) (words : List (List ℕ)) → AreWords words → IfOk (port_call call words) IsAllowedPort
unfolding port_call
port_allowed call words are =
    chosen IsAllowedPort (bytes_eq call name.bind) _ _
    (made_three IsSlot IsPort IsBindMode IsAllowedPort port.Bind slot_of port_of bind_mode_of words slot_given port_given bind_mode_given are (λ slot at mode one other last. ((one, other, last), tt)))
    (chosen IsAllowedPort (bytes_eq call name.recv) _ _ (made_one IsSlot IsAllowedPort port.Recv slot_of words slot_given are (λ slot one. (one, tt)))
    (chosen IsAllowedPort (bytes_eq call name.connect) _ _
    (made_three IsSlot IsPort IsConnectMode IsAllowedPort port.Connect slot_of port_of connect_mode_of words slot_given port_given connect_mode_given are (λ slot at mode one other last. ((one, other, last), tt)))
    (chosen IsAllowedPort (bytes_eq call name.push) _ _ (made_two IsSlot IsWritable IsAllowedPort port.Push slot_of datum_of words slot_given datum_given are (λ slot bytes one other. ((one, other.0), other.1)))
    (chosen IsAllowedPort (bytes_eq call name.send) _ _ (made_two IsPort IsWritable IsAllowedPort port.Send port_of datum_of words port_given datum_given are (λ at bytes one other. ((one, other.0), other.1)))
    (chosen IsAllowedPort (bytes_eq call name.unbind) _ _ (made_one IsSlot IsAllowedPort port.Unbind slot_of words slot_given are (λ slot one. (one, tt)))
    (chosen IsAllowedPort (bytes_eq call name.stat) (of_one port_of words >>= λ at. Ok (port.StatPort at)) _ (made_one IsPort IsAllowedPort port.StatPort port_of words port_given are (λ at one. (one, tt)))
    tt))))))
