-- The plain manager's calls by a path, but for open. Each row is its tests and questions in order, and the first that
-- fails is the reply.
use Rattle.std.specs.Prelude.{ℕ, Bool, false, not, nat_lt, List, [], length, take, drop, Option, Some, None, if◌then◌else◌}
use Rattle.std.specs.FinMap as maps
use Rattle.std.specs.FinMap.{FinMap}
use Rattle.std.specs.Ordering.{nat_cmp}
use Rattle.access_vectors.specs.Table.{Permission}
use Rattle.access_vectors.specs.Perms.{file_create, file_unlink, file_getattr, file_relabelfrom, file_relabelto, dir_read, dir_create, dir_add_name, dir_remove_name, dir_getattr, dir_relabelfrom, dir_relabelto}
use Rattle.access_vectors.specs.declared.class.Class.{Class}
use Rattle.access_vectors.specs.declared.class.Class.TheVariants as class
use Rattle.mode_questions.specs.Requests.{Request}
use Rattle.file_tree.specs.PlainTree.{Item, names_below, has_entry_below}
use Rattle.file_tree.specs.declared.step.Step.{Step}
use Rattle.file_calls.specs.Openings.{node_limit}
use Rattle.file_calls.specs.Paths.{same_steps}
use Rattle.file_calls.specs.States.{Held, FileState, FileAnswer, with_tree, saying, asking}
use Rattle.file_calls.specs.Walks.{entry_key, walked, after_walk}
use Rattle.file_calls.specs.declared.call.FileReply.TheVariants as reply

-- by what a node holds, the bytes of a file or none of a directory: its class
abbrev pub class_of : Option (List ℕ) → Class
class_of None = class.Dir
class_of (Some bytes) = class.File

-- the permissions of what holds this to be made, to be looked at, and to get another label
abbrev pub create_perm : Option (List ℕ) → Permission
create_perm None = dir_create
create_perm (Some bytes) = file_create

abbrev pub getattr_perm : Option (List ℕ) → Permission
getattr_perm None = dir_getattr
getattr_perm (Some bytes) = file_getattr

abbrev pub relabelfrom_perm : Option (List ℕ) → Permission
relabelfrom_perm None = dir_relabelfrom
relabelfrom_perm (Some bytes) = file_relabelfrom

abbrev pub relabelto_perm : Option (List ℕ) → Permission
relabelto_perm None = dir_relabelto
relabelto_perm (Some bytes) = file_relabelto

-- the label of what the subject makes in a directory of the label `above`
abbrev pub new_label : Request → ℕ → Option (List ℕ) → ℕ
new_label r above bytes = r.decisions.label r.version r.subject above (class_of bytes)

-- something new stands at a path, where there is room
abbrev pub put_in : FileState → List Step → Item → FileAnswer
put_in state at item =
    if nat_lt (maps.len state.tree) node_limit then saying (with_tree state (maps.insert state.tree at item)) reply.Done
    else saying state reply.TooMany

-- making what holds this, in a directory of the label `above`: Exists; the new label; add_name on the directory; create on
-- the new label; TooMany
abbrev pub made_at : Request → FileState → Option (List ℕ) → List Step → ℕ → Option Item → FileAnswer
made_at r state bytes at above (Some item) = saying state reply.Exists
made_at r state bytes at above None =
    asking r state above dir_add_name
    (asking r state (new_label r above bytes) (create_perm bytes)
    (put_in state at (record { label = new_label r above bytes; bytes = bytes })))

-- mkdir, where nothing is held, and create, where no bytes are
abbrev pub make_row : Request → FileState → List (List ℕ) → Option (List ℕ) → FileAnswer
make_row r state path bytes =
    let walk = walked r state path in
    after_walk state walk (made_at r state bytes walk.at walk.above (maps.get state.tree walk.at))

-- the slot holds what stands at a path
abbrev pub is_held_at : List Step → Option Held → Bool
is_held_at at None = false
is_held_at at (Some held) = same_steps held.path at

-- without the slots that hold what stands at a path
abbrev pub slots_without : List Step → FinMap nat_cmp Held → FinMap nat_cmp Held
slots_without at slots = maps.retain_keys slots (λ place. not (is_held_at at (maps.get slots place)))

-- what stood at a path is gone, and every slot that held it is free
abbrev pub taken_out : FileState → List Step → FileAnswer
taken_out state at =
    record {
      reply = reply.Done;
      state = record { opening = state.opening; tree = maps.remove state.tree at; slots = slots_without at state.slots };
      asked = [];
    }

-- taking out what holds this: unlink on a file; NotEmpty for a directory that has an entry under any key
abbrev pub unlinked_as : Request → FileState → List Step → ℕ → Option (List ℕ) → FileAnswer
unlinked_as r state at label (Some bytes) = asking r state label file_unlink (taken_out state at)
unlinked_as r state at label None = if has_entry_below state.tree at then saying state reply.NotEmpty else taken_out state at

-- taking out what the walk found: NotFound; remove_name on the directory
abbrev pub unlinked_at : Request → FileState → List Step → ℕ → Option Item → FileAnswer
unlinked_at r state at above None = saying state reply.NotFound
unlinked_at r state at above (Some item) =
    asking r state above dir_remove_name (unlinked_as r state at item.label item.bytes)

-- unlink: the walk; NotFound; remove_name on the directory; unlink on a file, or NotEmpty for a directory
abbrev pub unlink_row : Request → FileState → List (List ℕ) → FileAnswer
unlink_row r state path =
    let walk = walked r state path in
    after_walk state walk (unlinked_at r state walk.at walk.above (maps.get state.tree walk.at))

-- the names that a subject sees in a directory of this label, in byte order
abbrev pub names_seen : Request → FileState → List Step → ℕ → List (List ℕ)
names_seen r state at label = names_below state.tree at (entry_key r label)

-- how many names one list has at most
abbrev pub most_names : ℕ
most_names = 16

-- listing what holds this: NotDir for a file; read on the directory; the names without the first ones
abbrev pub listed_as : Request → FileState → ℕ → List Step → ℕ → Option (List ℕ) → FileAnswer
listed_as r state skip at label (Some bytes) = saying state reply.NotDir
listed_as r state skip at label None =
    asking r state label dir_read
    (saying state (reply.Names (take most_names (drop skip (names_seen r state at label)))))

-- listing what the walk found: NotFound
abbrev pub listed_at : Request → FileState → ℕ → List Step → Option Item → FileAnswer
listed_at r state skip at None = saying state reply.NotFound
listed_at r state skip at (Some item) = listed_as r state skip at item.label item.bytes

-- list: the walk; NotFound; NotDir; read on the directory; the names
abbrev pub list_row : Request → FileState → List (List ℕ) → ℕ → FileAnswer
list_row r state path skip =
    let walk = walked r state path in
    after_walk state walk (listed_at r state skip walk.at (maps.get state.tree walk.at))

-- how large what holds this is for a subject: of a file its bytes, of a directory the entries that the subject sees
abbrev pub size_of : Request → FileState → List Step → ℕ → Option (List ℕ) → ℕ
size_of r state at label (Some bytes) = length bytes
size_of r state at label None = length (names_seen r state at label)

-- the attributes of what the walk found: NotFound; getattr on it
abbrev pub told_at : Request → FileState → List Step → Option Item → FileAnswer
told_at r state at None = saying state reply.NotFound
told_at r state at (Some item) =
    asking r state item.label (getattr_perm item.bytes)
    (saying state (reply.Stat item.label (size_of r state at item.label item.bytes)))

-- stat: the walk; NotFound; getattr; label and size
abbrev pub stat_row : Request → FileState → List (List ℕ) → FileAnswer
stat_row r state path =
    let walk = walked r state path in
    after_walk state walk (told_at r state walk.at (maps.get state.tree walk.at))

-- another label for what the walk found: NotFound; relabelfrom on its label; relabelto on the new one
abbrev pub relabelled_at : Request → FileState → ℕ → List Step → Option Item → FileAnswer
relabelled_at r state label at None = saying state reply.NotFound
relabelled_at r state label at (Some item) =
    asking r state item.label (relabelfrom_perm item.bytes)
    (asking r state label (relabelto_perm item.bytes)
    (saying (with_tree state (maps.insert state.tree at (record { label = label; bytes = item.bytes }))) reply.Done))

-- relabel: the walk; NotFound; relabelfrom; relabelto
abbrev pub relabel_row : Request → FileState → List (List ℕ) → ℕ → FileAnswer
relabel_row r state path label =
    let walk = walked r state path in
    after_walk state walk (relabelled_at r state label walk.at (maps.get state.tree walk.at))
