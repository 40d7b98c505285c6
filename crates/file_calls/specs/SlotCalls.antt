-- The plain manager's calls by a slot, and open, which fills one. A slot gives nothing by itself: each use asks anew, on the
-- label that the file has at present. A slot that holds no file is as good as free.
use Rattle.std.specs.Prelude.{ℕ, ◌+◌, nat_lt, List, ◌++◌, length, take, drop, Option, Some, None, if◌then◌else◌}
use Rattle.std.specs.FinMap as maps
use Rattle.access_vectors.specs.Table.{Permission}
use Rattle.access_vectors.specs.Perms.{file_read, file_write, file_append}
use Rattle.access_vectors.specs.Vectors.{has}
use Rattle.mode_questions.specs.Requests.{Request}
use Rattle.file_tree.specs.Bytes.{written}
use Rattle.file_tree.specs.PlainTree.{Item}
use Rattle.file_tree.specs.declared.step.Step.{Step}
use Rattle.file_calls.specs.Openings.{byte_limit}
use Rattle.file_calls.specs.States.{Held, FileState, FileAnswer, with_tree, with_slots, saying, asking, asking_whole, after_asking}
use Rattle.file_calls.specs.Walks.{walked, after_walk}
use Rattle.file_calls.specs.declared.call.FileReply.TheVariants as reply

-- the slot at a place is filled
abbrev pub filled : FileState → ℕ → List Step → ℕ → FileAnswer
filled state place at mode = saying (with_slots state (maps.insert state.slots place (record { path = at; mode = mode }))) reply.Done

-- the file has other bytes
abbrev pub with_bytes : FileState → List Step → ℕ → List ℕ → FileAnswer
with_bytes state at label bytes = saying (with_tree state (maps.insert state.tree at (record { label = label; bytes = Some bytes }))) reply.Done

-- opening what holds this: IsDir for a directory; each permission of the mode, in the order read, write, append
abbrev pub opened_as : Request → FileState → ℕ → ℕ → List Step → ℕ → Option (List ℕ) → FileAnswer
opened_as r state place mode at label None = saying state reply.IsDir
opened_as r state place mode at label (Some bytes) =
    after_asking r state (asking_whole r label mode) (filled state place at mode)

-- opening what the walk found: NotFound
abbrev pub opened_at : Request → FileState → ℕ → ℕ → List Step → Option Item → FileAnswer
opened_at r state place mode at None = saying state reply.NotFound
opened_at r state place mode at (Some item) = opened_as r state place mode at item.label item.bytes

-- opening into what a place holds: SlotUsed
abbrev pub open_into : Request → FileState → ℕ → List (List ℕ) → ℕ → Option Held → FileAnswer
open_into r state place path mode (Some held) = saying state reply.SlotUsed
open_into r state place path mode None =
    let walk = walked r state path in
    after_walk state walk (opened_at r state place mode walk.at (maps.get state.tree walk.at))

-- open: SlotUsed; the walk; NotFound; IsDir; each permission of the mode
abbrev pub open_row : Request → FileState → ℕ → List (List ℕ) → ℕ → FileAnswer
open_row r state place path mode = open_into r state place path mode (maps.get state.slots place)

-- what is done with the file of a slot: nothing where none stands at its path
abbrev pub with_file : FileState → Option Item → (ℕ → List ℕ → FileAnswer) → FileAnswer
with_file state None rest = saying state reply.BadSlot
with_file state (Some item) rest = with_item item.bytes
  where
    with_item : Option (List ℕ) → FileAnswer
    with_item None = saying state reply.BadSlot
    with_item (Some bytes) = rest item.label bytes

-- a use of what a place holds, which needs this permission: BadSlot; BadMode where the mode lacks it; the permission is
-- asked on the file's present label
abbrev pub used : Request → FileState → Permission → Option Held → (List Step → ℕ → List ℕ → FileAnswer) → FileAnswer
used r state perm None rest = saying state reply.BadSlot
used r state perm (Some held) rest =
    if has held.mode perm.index
    then with_file state (maps.get state.tree held.path) (λ label bytes. asking r state label perm (rest held.path label bytes))
    else saying state reply.BadMode

-- read: BadSlot; BadMode; the permission read; the bytes from the offset on, at most so many
abbrev pub read_row : Request → FileState → ℕ → ℕ → ℕ → FileAnswer
read_row r state place offset most =
    used r state file_read (maps.get state.slots place) (λ at label bytes. saying state (reply.Bytes (take most (drop offset bytes))))

-- the file's bytes are changed, where the size that was asked for is allowed
abbrev pub sized : FileState → ℕ → FileAnswer → FileAnswer
sized state size rest = if nat_lt byte_limit size then saying state reply.TooBig else rest

-- write: BadSlot; BadMode; the permission write; TooBig where the piece ends past the limit; the piece is written over the
-- bytes from the offset on, and a gap before it is filled
abbrev pub write_row : Request → FileState → ℕ → ℕ → List ℕ → FileAnswer
write_row r state place offset piece =
    used r state file_write (maps.get state.slots place)
    (λ at label bytes. sized state (offset + length piece) (with_bytes state at label (written bytes offset piece)))

-- append: BadSlot; BadMode; the permission append; TooBig where the file would be larger than the limit; the piece is added
-- at the end
abbrev pub append_row : Request → FileState → ℕ → List ℕ → FileAnswer
append_row r state place piece =
    used r state file_append (maps.get state.slots place)
    (λ at label bytes. sized state (length bytes + length piece) (with_bytes state at label (bytes ++ piece)))

-- freeing what a place holds: BadSlot
abbrev pub closed : FileState → ℕ → Option Held → FileAnswer
closed state place None = saying state reply.BadSlot
closed state place (Some held) = saying (with_slots state (maps.remove state.slots place)) reply.Done

-- close: BadSlot; the slot is free
abbrev pub close_row : FileState → ℕ → FileAnswer
close_row state place = closed state place (maps.get state.slots place)

-- giving what a slot holds to the place of a receiver, for whom is asked: SlotUsed; each permission of the mode
abbrev pub given_into : Request → FileState → ℕ → Held → Option Held → FileAnswer
given_into r state target held (Some other) = saying state reply.SlotUsed
given_into r state target held None =
    with_file state (maps.get state.tree held.path)
    (λ label bytes. after_asking r state (asking_whole r label held.mode) (filled state target held.path held.mode))

-- giving what a place holds: BadSlot
abbrev pub given_from : Request → FileState → ℕ → Option Held → FileAnswer
given_from r state target None = saying state reply.BadSlot
given_from r state target (Some held) =
    given_into r state target held (maps.get state.slots target)

-- give, asked for the receiver: BadSlot; SlotUsed where the receiver's slot is used; each permission of the mode; the giver
-- keeps its own slot
abbrev pub give_row : Request → FileState → ℕ → ℕ → FileAnswer
give_row r state place target =
    given_from r state target (maps.get state.slots place)
