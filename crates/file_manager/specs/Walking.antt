-- What a walk of the code tells, by the plain walk.
use Rattle.std.specs.Prelude.{◌≡◌, ℕ, true, List, [], ◌∷◌, Option, Some, None, Result, Ok, Err, is_some, option_map}
use Rattle.std.specs.FinMap as maps
use Rattle.file_tree.specs.Nodes.{Nodes, IsFree, is_directory, path_in, step_from}
use Rattle.file_tree.specs.PlainTree.{plain, item_of}
use Rattle.flask_sid.specs.declared.memory.Memory.{Memory}
use Rattle.access_vectors.specs.declared.asker.Asker.{Ghosts}
use Rattle.mode_questions.specs.Requests.{Request}
use Rattle.mode_questions.specs.Operations.{IsSameOperation, HasAsked}
use Rattle.mode_questions.specs.declared.operation.Operation.{Operation}
use Rattle.file_tree.specs.declared.node.Node.{Node}
use Rattle.file_calls.specs.Walks.{Walk, walked_from}
use Rattle.file_calls.specs.declared.call.FileReply.{FileReply}
use Rattle.file_calls.specs.declared.call.FileReply.TheVariants as reply
use Rattle.file_manager.specs.declared.walks.Stop.{Stop}
use Rattle.file_manager.specs.declared.walks.Stop.TheVariants as stop
use Rattle.file_manager.specs.declared.walks.Spot.{Spot}
use Rattle.file_manager.specs.declared.walks.Below.{Below}
use Rattle.file_manager.specs.declared.walks.Below.TheVariants as below
use Rattle.file_manager.specs.declared.walks.Walked.{Walked}
use Rattle.file_manager.specs.declared.walks.Walked.TheVariants as walked

-- the reply of a call whose walk stopped
abbrev pub said_of : Stop → FileReply
said_of stop.NotFound = reply.NotFound
said_of stop.NotDir = reply.NotDir
said_of (stop.Denied perm policy) = reply.Denied perm policy

-- a walk from a numbered node, in a directory of the label `above`, along a first name and those behind it
unfoldable pub walk_on : Request → Nodes → ℕ → ℕ → List ℕ → List (List ℕ) → Walk
walk_on r nodes above from name names = walked_from r (plain nodes) above (path_in nodes from) (name ∷ names)

-- the last of some names
abbrev pub last_name : List ℕ → List (List ℕ) → List ℕ
last_name name [] = name
last_name name (other ∷ names) = last_name other names

-- the last name of a path, and of `/` no bytes
abbrev pub name_of : List (List ℕ) → List ℕ
name_of [] = []
name_of (name ∷ names) = last_name name names

-- the label of a node, if it is there
abbrev pub label_of : Option Node → ℕ
label_of None = 0
label_of (Some node) = node.label

-- a walk that nothing stopped came to a numbered node
pub record IsFound (nodes : Nodes) (walk : Walk) (object : ℕ) : Type 0 where
  pub through : walk.stop ≡ None
  pub there : is_some (maps.get nodes object) ≡ true
  pub at : path_in nodes object ≡ walk.at
  pub item : maps.get (plain nodes) walk.at ≡ option_map item_of (maps.get nodes object)

-- a walk that nothing stopped came to an entry that is missing
pub record IsMissing (nodes : Nodes) (walk : Walk) : Type 0 where
  pub through : walk.stop ≡ None
  pub item : maps.get (plain nodes) walk.at ≡ None

-- an entry of this name may be put into a directory, under a key
pub record IsFreeIn (nodes : Nodes) (spot : Spot) (name : List ℕ) : Type 0 where
  pub there : is_some (maps.get nodes spot.directory) ≡ true
  pub kind : is_directory (maps.get nodes spot.directory) ≡ true
  pub free : IsFree nodes (step_from (path_in nodes spot.directory) spot.key name)

-- a numbered node may be taken out of this directory
pub record IsEntryOf (nodes : Nodes) (directory object : ℕ) : Type 0 where
  pub over : is_some (maps.get nodes directory) ≡ true
  pub there : is_some (maps.get nodes object) ≡ true
  pub below : object ≡ 0 → ⊥

-- the entry of a walk is missing in this directory, under this key and name
pub record IsMissingIn (nodes : Nodes) (walk : Walk) (spot : Spot) (name : List ℕ) : Type 0 where
  pub through : walk.stop ≡ None
  pub item : maps.get (plain nodes) walk.at ≡ None
  pub above : label_of (maps.get nodes spot.directory) ≡ walk.above
  pub at : step_from (path_in nodes spot.directory) spot.key name ≡ walk.at
  pub free : IsFreeIn nodes spot name

-- a numbered node was found in this directory
pub record IsFoundIn (nodes : Nodes) (walk : Walk) (directory object : ℕ) : Type 0 where
  pub found : IsFound nodes walk object
  pub above : label_of (maps.get nodes directory) ≡ walk.above
  pub entry : IsEntryOf nodes directory object

-- what is told of a walk along some names, of which this is the last
abbrev pub IsBelow : Nodes → Walk → List ℕ → Below → Type 0
IsBelow nodes walk name (below.Stopped stop) = walk.stop ≡ Some (said_of stop)
IsBelow nodes walk name (below.Missing spot) = IsMissingIn nodes walk spot name
IsBelow nodes walk name (below.Found directory object) = IsFoundIn nodes walk directory object

-- what is told of a walk along any path
abbrev pub IsWalked : Nodes → Walk → Walked → Type 0
IsWalked nodes walk (walked.Stopped stop) = walk.stop ≡ Some (said_of stop)
IsWalked nodes walk walked.Missing = IsMissing nodes walk
IsWalked nodes walk (walked.Found object) = IsFound nodes walk object

module _ {A : Type 0} {g : Ghosts A} where
  -- an operation has walked so far along some names, of which this is the last, and asked what the walk asks
  abbrev pub ComesBelow : Result Below Memory → Nodes → Operation A g → Operation A g → Walk → List ℕ → Type 0
  ComesBelow (Ok told) nodes before after walk name = IsBelow nodes walk name told × HasAsked before after walk.asked
  ComesBelow (Err memory) nodes before after walk name = IsSameOperation before after

  -- the same along any path
  abbrev pub ComesTo : Result Walked Memory → Nodes → Operation A g → Operation A g → Walk → Type 0
  ComesTo (Ok told) nodes before after walk = IsWalked nodes walk told × HasAsked before after walk.asked
  ComesTo (Err memory) nodes before after walk = IsSameOperation before after
