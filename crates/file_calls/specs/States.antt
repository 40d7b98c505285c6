-- The state of the plain file manager, and how its answers are put together.
use Rattle.std.specs.Prelude.{ℕ, List, [], ◌∷◌, slice_index, None}
use Rattle.std.specs.Ordering.{nat_cmp}
use Rattle.std.specs.FinMap as maps
use Rattle.std.specs.FinMap.{FinMap}
use Rattle.access_vectors.specs.Table.{Permission}
use Rattle.access_vectors.specs.Perms.{file_read, file_write, file_append}
use Rattle.manager_history.specs.Answers.{Answer}
use Rattle.mode_questions.specs.Requests as requests
use Rattle.mode_questions.specs.Requests.{Request, Asking, asking_mode}
use Rattle.file_tree.specs.PlainTree.{PlainTree, steps_of}
use Rattle.file_tree.specs.declared.step.Step.{Step}
use Rattle.file_calls.specs.declared.opening.Node.{Node}
use Rattle.file_calls.specs.declared.opening.FileOpening.{FileOpening}
use Rattle.file_calls.specs.declared.call.FileReply.{FileReply}
use Rattle.file_calls.specs.declared.call.FileReply.TheVariants as reply

-- a slot in use: the path of its file in the tree, and the mode
pub record Held : Type 0 where
  pub path : List Step
  pub mode : ℕ

-- the manager's state: what it was opened with, what stands at each path now, and the used slots by their places
pub record FileState : Type 0 where
  pub opening : FileOpening
  pub tree : PlainTree
  pub slots : FinMap nat_cmp Held

-- the reply to a call, the state that it leaves, and the questions that it asked, up to the first no
abbrev pub FileAnswer : Type 0
FileAnswer = Answer FileReply FileState

-- a client's identifier
abbrev pub sid_of : FileState → ℕ → ℕ
sid_of state client = slice_index state.opening.clients client

-- the root alone
abbrev pub root_tree : ℕ → PlainTree
root_tree label = maps.insert maps.empty [] (record { label = label; bytes = None })

-- a tree with the nodes of an opening put in, each under key 0
abbrev pub laid : PlainTree → List Node → PlainTree
laid tree [] = tree
laid tree (node ∷ nodes) = laid (maps.insert tree (steps_of node.path) (record { label = node.sid; bytes = node.bytes })) nodes

-- the state that an opening gives: its nodes stand in the tree, and every slot is free
abbrev pub opened_with : FileOpening → FileState
opened_with opening = record { opening = opening; tree = laid (root_tree opening.root) opening.nodes; slots = maps.empty }

-- the state with another tree
abbrev pub with_tree : FileState → PlainTree → FileState
with_tree state tree = record { opening = state.opening; tree = tree; slots = state.slots }

-- the state with other slots
abbrev pub with_slots : FileState → FinMap nat_cmp Held → FileState
with_slots state slots = record { opening = state.opening; tree = state.tree; slots = slots }

-- the permissions of a file's mode, in the order in which they are asked
abbrev pub mode_perms : List Permission
mode_perms = file_read ∷ file_write ∷ file_append ∷ []

-- what comes of asking the whole of a mode
abbrev pub asking_whole : Request → ℕ → ℕ → Asking
asking_whole r t mode = asking_mode r t mode mode_perms

-- a reply that asks nothing more, in a state
abbrev pub saying : FileState → FileReply → FileAnswer
saying state said = requests.saying state said

-- a question first: where it is denied that is the reply, and nothing else is done
abbrev pub asking : Request → FileState → ℕ → Permission → FileAnswer → FileAnswer
asking r state t perm rest = requests.asking reply.Denied r state t perm rest

-- what is done where no permission of the mode was denied
abbrev pub after_asking : Request → FileState → Asking → FileAnswer → FileAnswer
after_asking r state asking rest = requests.after_asking reply.Denied r state asking rest
