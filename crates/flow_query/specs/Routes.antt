-- The questions by which information flows between two types, and by which a domain is entered.
use Rattle.std.specs.Prelude.{List, [], ◌∷◌}
use Rattle.access_vectors.specs.Table.{Permission}
use Rattle.access_vectors.specs.Perms.{file_read, file_write, file_append, file_create, file_getattr, dir_read, dir_search, dir_add_name, dir_remove_name, dir_getattr, process_transition, process_signal, process_ptrace, process_wait, process_getattr, port_recv, port_send, port_getattr}
use Rattle.flow_query.specs.declared.route.Kind.{Kind}
use Rattle.flow_query.specs.declared.route.Kind.TheVariants.{Flow, Enter}
use Rattle.flow_query.specs.declared.route.Way.{Way}
use Rattle.flow_query.specs.declared.route.Way.TheVariants.{Writing, Reading}

-- a permission, and which way information goes by its use
abbrev pub Route : Type 0
Route = Permission × Way

-- to the target
abbrev pub writing : Permission → Route
writing perm = (perm, Writing)

-- from the target
abbrev pub reading : Permission → Route
reading perm = (perm, Reading)

-- by which permissions information flows: by class code, then by the permission's index, then writing before reading
abbrev pub flows : List Route
flows =
    reading file_read ∷ writing file_write ∷ writing file_append ∷ writing file_create ∷ reading file_getattr
    ∷ reading dir_read ∷ reading dir_search ∷ writing dir_add_name ∷ writing dir_remove_name ∷ reading dir_getattr
    ∷ writing process_signal ∷ writing process_ptrace ∷ reading process_ptrace ∷ reading process_wait ∷ reading process_getattr
    ∷ reading port_recv ∷ writing port_send ∷ reading port_getattr ∷ []

-- a domain is entered by transition alone, from the source to the target
abbrev pub entries : List Route
entries = writing process_transition ∷ []

-- what makes a hop of a kind
abbrev pub routes : Kind → List Route
routes Flow = flows
routes Enter = entries
