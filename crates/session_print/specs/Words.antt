-- The words for what a session keeps by number: contexts, clients, modes, paths and managers.
use Rattle.std.specs.Prelude.{ℕ, ◌-◌, ◌==◌, List, [], ◌∷◌, Option, Some, None, slice_get, if◌then◌else◌, codes}
use Rattle.std.specs.List.{flat_map}
use Rattle.flask_sid.specs.Contexts.{context_text}
use Rattle.policy_model.specs.declared.policy.ContextLine.{ContextLine}
use Rattle.session_forms.specs.declared.run_forms.Manager.{Manager}
use Rattle.session_forms.specs.declared.run_forms.Manager.TheVariants.{File, Process, Port}
use Rattle.session_text.specs.declared.session.ClientLine.{ClientLine}

-- the context of a line, if there is one
abbrev pub text_of_context : Option ContextLine → List ℕ
text_of_context None = []
text_of_context (Some line) = context_text line.context

-- the declared context that an identifier stands for: that of its place among the context lines, from 1
abbrev pub context_word : List ContextLine → ℕ → List ℕ
context_word contexts sid = text_of_context (slice_get contexts (sid - 1))

-- the name of a client, if there is one
abbrev pub name_of_client : Option ClientLine → List ℕ
name_of_client None = []
name_of_client (Some client) = client.name

-- the name of the client of a number
abbrev pub client_word : List ClientLine → ℕ → List ℕ
client_word clients client = name_of_client (slice_get clients client)

-- a part of a path behind a `/`
abbrev pub part_text : List ℕ → List ℕ
part_text part = 47 ∷ part

-- a path: `/` for the root, and each part behind a `/` for what stands below it
abbrev pub path_word : List (List ℕ) → List ℕ
path_word [] = codes "/"
path_word (part ∷ parts) = flat_map part_text (part ∷ parts)

-- the word of a manager
abbrev pub manager_word : Manager → List ℕ
manager_word File = codes "file"
manager_word Process = codes "process"
manager_word Port = codes "port"

-- the mode of an open file: `r`, `w` and `a` for its permissions read, write and append
unfoldable pub mode_word : ℕ → List ℕ
mode_word mode =
    if mode == 1 then codes "r"
    else if mode == 2 then codes "w"
    else if mode == 3 then codes "rw"
    else if mode == 4 then codes "a"
    else if mode == 5 then codes "ra"
    else if mode == 6 then codes "wa"
    else codes "rwa"

-- the mode of a bound port: `b` for name_bind, and `br` with recv
unfoldable pub bind_word : ℕ → List ℕ
bind_word mode = if mode == 1 then codes "b" else codes "br"

-- the mode of a connection: `c` for connect, and `cs` with send
unfoldable pub connect_word : ℕ → List ℕ
connect_word mode = if mode == 8 then codes "c" else codes "cs"
