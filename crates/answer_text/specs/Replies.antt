-- The words of a reply. Labels are identifiers of these contexts.
use Rattle.std.specs.Prelude.{ℕ, Bool, true, false, List, [], ◌∷◌, length, codes, decimal}
use Rattle.access_vectors.specs.Table.{Permission, class_word, perm_word}
use Rattle.flask_sid.specs.Contexts.{context_text}
use Rattle.flask_sid.specs.declared.context.ContextOf.{ContextOf}
use Rattle.text_print.specs.Printed.{context_with}
use Rattle.file_calls.specs.declared.call.FileReply.{FileReply}
use Rattle.file_calls.specs.declared.call.FileReply.TheVariants as file
use Rattle.process_calls.specs.declared.call.ProcessReply.{ProcessReply}
use Rattle.process_calls.specs.declared.call.ProcessReply.TheVariants as process
use Rattle.port_calls.specs.declared.call.PortReply.{PortReply}
use Rattle.port_calls.specs.declared.call.PortReply.TheVariants as port

-- bytes that were read: how many, and where there are any, these
abbrev pub data_words : List ℕ → List (List ℕ)
data_words [] = codes "data" ∷ decimal 0 ∷ []
data_words (b ∷ bytes) = codes "data" ∷ decimal (length (b ∷ bytes)) ∷ (b ∷ bytes) ∷ []

-- names that were listed: how many, and these
abbrev pub names_words : List (List ℕ) → List (List ℕ)
names_words names = codes "names" ∷ decimal (length names) ∷ names

-- a label's context, and a number: bytes of a file, entries of a directory, a register, or messages that wait
abbrev pub stat_words : List (ContextOf (List ℕ)) → ℕ → ℕ → List (List ℕ)
stat_words contexts sid number = codes "stat" ∷ context_text (context_with contexts sid) ∷ decimal number ∷ []

-- a number that was told
abbrev pub told_words : ℕ → List (List ℕ)
told_words number = codes "num" ∷ decimal number ∷ []

-- a permission that was denied, with its class
abbrev pub denial_words : Permission → List (List ℕ)
denial_words perm = codes "denied" ∷ class_word perm.class ∷ perm_word perm ∷ []

-- a reply of the file manager
abbrev pub file_words : List (ContextOf (List ℕ)) → FileReply → List (List ℕ)
file_words contexts file.Done = codes "done" ∷ []
file_words contexts (file.Bytes bytes) = data_words bytes
file_words contexts (file.Names names) = names_words names
file_words contexts (file.Stat sid number) = stat_words contexts sid number
file_words contexts (file.Denied perm policy) = denial_words perm
file_words contexts file.NotFound = codes "notfound" ∷ []
file_words contexts file.NotDir = codes "notdir" ∷ []
file_words contexts file.IsDir = codes "isdir" ∷ []
file_words contexts file.Exists = codes "exists" ∷ []
file_words contexts file.NotEmpty = codes "notempty" ∷ []
file_words contexts file.BadSlot = codes "badslot" ∷ []
file_words contexts file.SlotUsed = codes "slotused" ∷ []
file_words contexts file.BadMode = codes "badmode" ∷ []
file_words contexts file.TooBig = codes "toobig" ∷ []
file_words contexts file.TooMany = codes "toomany" ∷ []

-- a reply of the process manager
abbrev pub process_words : List (ContextOf (List ℕ)) → ProcessReply → List (List ℕ)
process_words contexts process.Done = codes "done" ∷ []
process_words contexts (process.Num number) = told_words number
process_words contexts (process.Stat sid number) = stat_words contexts sid number
process_words contexts (process.Denied perm policy) = denial_words perm
process_words contexts process.NoProcess = codes "noprocess" ∷ []
process_words contexts process.Exists = codes "exists" ∷ []
process_words contexts process.Ended = codes "ended" ∷ []
process_words contexts process.Running = codes "running" ∷ []
process_words contexts process.NotChild = codes "notchild" ∷ []
process_words contexts process.BadSlot = codes "badslot" ∷ []
process_words contexts process.SlotUsed = codes "slotused" ∷ []
process_words contexts process.TooMany = codes "toomany" ∷ []

-- a reply of the port manager
abbrev pub port_words : List (ContextOf (List ℕ)) → PortReply → List (List ℕ)
port_words contexts port.Done = codes "done" ∷ []
port_words contexts (port.Bytes bytes) = data_words bytes
port_words contexts (port.Stat sid number) = stat_words contexts sid number
port_words contexts (port.Denied perm policy) = denial_words perm
port_words contexts port.Taken = codes "taken" ∷ []
port_words contexts port.NoPort = codes "noport" ∷ []
port_words contexts port.BadSlot = codes "badslot" ∷ []
port_words contexts port.SlotUsed = codes "slotused" ∷ []
port_words contexts port.BadMode = codes "badmode" ∷ []
port_words contexts port.Full = codes "full" ∷ []
port_words contexts port.Empty = codes "empty" ∷ []
port_words contexts port.TooBig = codes "toobig" ∷ []

-- whether a reply of the file manager is a denial
abbrev pub is_file_denial : FileReply → Bool
is_file_denial (file.Denied perm policy) = true
is_file_denial other = false

-- whether a reply of the process manager is a denial
abbrev pub is_process_denial : ProcessReply → Bool
is_process_denial (process.Denied perm policy) = true
is_process_denial other = false

-- whether a reply of the port manager is a denial
abbrev pub is_port_denial : PortReply → Bool
is_port_denial (port.Denied perm policy) = true
is_port_denial other = false
