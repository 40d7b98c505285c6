-- What the program says of a status on standard error.
use Rattle.std.specs.Prelude.{ℕ, List, ◌++◌, codes, decimal}
use Rattle.access_vectors.specs.declared.perm.Perm.{Perm}
use Rattle.text_lines.specs.declared.fault.FaultKind.{FaultKind}
use Rattle.text_lines.specs.declared.fault.FaultKind.TheVariants as fault
use Rattle.flaskd_run.specs.Texts.{perm_text}
use Rattle.flaskd_run.specs.declared.status.Status.{Status}
use Rattle.flaskd_run.specs.declared.status.Status.TheVariants as status

-- the word for what is wrong with a line
abbrev pub kind_word : FaultKind → List ℕ
kind_word fault.Syntax = codes "syntax"
kind_word fault.Order = codes "order"
kind_word fault.Limit = codes "limit"
kind_word fault.Unknown = codes "unknown"
kind_word fault.Undeclared = codes "undeclared"
kind_word fault.Twice = codes "twice"
kind_word fault.Ended = codes "ended"

-- the faulty line of a text, and what is wrong with it
abbrev pub fault_text : ℕ → FaultKind → List ℕ
fault_text line kind = codes "line " ++ decimal line ++ codes ": " ++ kind_word kind

-- which version breaks which `neverallow` line
abbrev pub place_text : ℕ → ℕ → List ℕ
place_text version line = codes "version " ++ decimal version ++ codes " line " ++ decimal line

-- two types, with a space behind each
abbrev pub types_text : List ℕ → List ℕ → List ℕ
types_text s t = s ++ codes " " ++ t ++ codes " "

-- the words before the types of a broken line
unfoldable pub broken_front : List ℕ
broken_front = codes ": neverallow "

-- the words before the most bytes that an input may have
unfoldable pub large_front : List ℕ
large_front = codes "input larger than "

-- what the version allows though the line forbids it: a permission of a source for a target
abbrev pub forbidden_text : List ℕ → List ℕ → Perm → List ℕ
forbidden_text s t perm = broken_front ++ types_text s t ++ perm_text perm

-- what is said of a status
abbrev pub said_of : Status → List ℕ
said_of status.Ok = codes "ok"
said_of status.Usage =
    codes "usage: flaskd serial | threads | generate SEED CLIENTS LINES | flow VERSION FROM TO | enter VERSION FROM TO | learn VERSION"
said_of (status.BadText line kind) = fault_text line kind
said_of status.TooManyContexts = codes "more than " ++ decimal 4095 ++ codes " contexts"
said_of (status.Neverallow version line s t perm) = place_text version line ++ forbidden_text s t perm
said_of status.ReadFault = codes "read fault"
said_of status.WriteFault = codes "write fault"
said_of status.TooLarge = large_front ++ decimal 4194304 ++ codes " bytes"
said_of status.Memory = codes "memory"
