-- The words of each call, behind its client and its manager: its name, and its arguments.
use Rattle.std.specs.Prelude.{ℕ, List, [], ◌∷◌, decimal}
use Rattle.policy_model.specs.declared.policy.ContextLine.{ContextLine}
use Rattle.file_calls.specs.declared.call.FileCall.{FileCall}
use Rattle.file_calls.specs.declared.call.FileCall.TheVariants as file
use Rattle.process_calls.specs.declared.call.ProcessCall.{ProcessCall}
use Rattle.process_calls.specs.declared.call.ProcessCall.TheVariants as process
use Rattle.port_calls.specs.declared.call.PortCall.{PortCall}
use Rattle.port_calls.specs.declared.call.PortCall.TheVariants as port
use Rattle.session_forms.specs.CallNames as name
use Rattle.session_text.specs.declared.session.ClientLine.{ClientLine}
use Rattle.session_print.specs.Words.{context_word, client_word, path_word, mode_word, bind_word, connect_word}

-- a call of the file manager: a receiver stands by its name, and a label as the declared context
unfoldable pub file_words : List ContextLine → List ClientLine → FileCall → List (List ℕ)
file_words contexts clients (file.Mkdir path) = name.mkdir ∷ path_word path ∷ []
file_words contexts clients (file.Create path) = name.create ∷ path_word path ∷ []
file_words contexts clients (file.OpenFile slot path mode) = name.open_file ∷ decimal slot ∷ path_word path ∷ mode_word mode ∷ []
file_words contexts clients (file.ReadFile slot offset most) = name.read_file ∷ decimal slot ∷ decimal offset ∷ decimal most ∷ []
file_words contexts clients (file.WriteFile slot offset piece) = name.write_file ∷ decimal slot ∷ decimal offset ∷ piece ∷ []
file_words contexts clients (file.AppendFile slot piece) = name.append_file ∷ decimal slot ∷ piece ∷ []
file_words contexts clients (file.CloseFile slot) = name.close_file ∷ decimal slot ∷ []
file_words contexts clients (file.Unlink path) = name.unlink ∷ path_word path ∷ []
file_words contexts clients (file.List path skip) = name.list ∷ path_word path ∷ decimal skip ∷ []
file_words contexts clients (file.StatFile path) = name.stat ∷ path_word path ∷ []
file_words contexts clients (file.Relabel path sid) = name.relabel ∷ path_word path ∷ context_word contexts sid ∷ []
file_words contexts clients (file.Give slot client target) = name.give ∷ decimal slot ∷ client_word clients client ∷ decimal target ∷ []

-- a call of the process manager
unfoldable pub process_words : List ContextLine → ProcessCall → List (List ℕ)
process_words contexts (process.Fork pid) = name.fork ∷ decimal pid ∷ []
process_words contexts (process.Exec pid sid) = name.exec ∷ decimal pid ∷ context_word contexts sid ∷ []
process_words contexts (process.Signal pid number) = name.signal ∷ decimal pid ∷ decimal number ∷ []
process_words contexts (process.Exit pid code) = name.exit ∷ decimal pid ∷ decimal code ∷ []
process_words contexts (process.Wait pid) = name.wait ∷ decimal pid ∷ []
process_words contexts (process.Attach slot pid) = name.attach ∷ decimal slot ∷ decimal pid ∷ []
process_words contexts (process.Peek slot) = name.peek ∷ decimal slot ∷ []
process_words contexts (process.Poke slot value) = name.poke ∷ decimal slot ∷ decimal value ∷ []
process_words contexts (process.Detach slot) = name.detach ∷ decimal slot ∷ []
process_words contexts (process.StatProcess pid) = name.stat ∷ decimal pid ∷ []

-- a call of the port manager
unfoldable pub port_words : PortCall → List (List ℕ)
port_words (port.Bind slot at mode) = name.bind ∷ decimal slot ∷ decimal at ∷ bind_word mode ∷ []
port_words (port.Recv slot) = name.recv ∷ decimal slot ∷ []
port_words (port.Connect slot at mode) = name.connect ∷ decimal slot ∷ decimal at ∷ connect_word mode ∷ []
port_words (port.Push slot piece) = name.push ∷ decimal slot ∷ piece ∷ []
port_words (port.Send at piece) = name.send ∷ decimal at ∷ piece ∷ []
port_words (port.Unbind slot) = name.unbind ∷ decimal slot ∷ []
port_words (port.StatPort at) = name.stat ∷ decimal at ∷ []
