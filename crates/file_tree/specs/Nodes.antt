-- Numbered nodes, and where they stand.
use Rattle.std.specs.Prelude.{◌≡◌, ℕ, ◌<◌, Bool, true, false, not, ◌&&◌, ◌==◌, length, unwrap_or, List, [], ◌∷◌, ◌++◌, take, drop, Option, None, Some, MatchOption}
use Rattle.std.specs.Ordering.{nat_cmp}
use Rattle.std.specs.FinMap as maps
use Rattle.std.specs.FinMap.{FinMap}
use Rattle.file_tree.specs.declared.step.Step.{Step}
use Rattle.file_tree.specs.declared.node.Node.{Node}
use Rattle.file_tree.specs.Shelves.{Places, Numbers, place_of, number_at}

-- the nodes by their numbers
abbrev pub Nodes : Type 0
Nodes = FinMap nat_cmp Node

-- a path with one more step
abbrev pub step_from : List Step → ℕ → List ℕ → List Step
step_from path key name = path ++ record { key = key; name = name } ∷ []

-- the path of a node, if there is one
abbrev pub path_of : Option Node → List Step
path_of None = []
path_of (Some node) = node.path

-- the path of a numbered node
abbrev pub path_in : Nodes → ℕ → List Step
path_in nodes number = path_of (maps.get nodes number)

-- a node without bytes is a directory
abbrev pub is_directory_node : Option (List ℕ) → Bool
is_directory_node None = true
is_directory_node (Some bytes) = false

-- there is a node, and it is a directory
abbrev pub is_directory : Option Node → Bool
is_directory None = false
is_directory (Some node) = is_directory_node node.bytes

-- a numbered node stands at a path
pub record IsAt (nodes : Nodes) (path : List Step) (number : ℕ) : Type 0 where
  pub node : Node
  pub held : maps.get nodes number ≡ Some node
  pub at : node.path ≡ path

-- nothing stands at a path
abbrev pub IsFree : Nodes → List Step → Type 0
IsFree nodes path = (number : ℕ) → IsAt nodes path number → ⊥

-- nothing stands right below a path
abbrev pub HasNoEntry : Nodes → List Step → Type 0
HasNoEntry nodes path = (step : Step) → IsFree nodes (path ++ step ∷ [])

-- a node stands in its parent, which is a directory, and in the index
pub record IsPlaced (nodes : Nodes) (places : Places) (number : ℕ) (node : Node) : Type 0 where
  pub step : Step
  pub above : Node
  pub over : maps.get nodes node.parent ≡ Some above
  pub kind : above.bytes ≡ None
  pub path : node.path ≡ above.path ++ step ∷ []
  pub small : step.key < 65536
  pub there : number_at places (place_of node.parent step.key) step.name ≡ Some number

-- an entry of the index is a node with that step in its parent
pub record IsListed (nodes : Nodes) (place : ℕ) (name : List ℕ) (number : ℕ) : Type 0 where
  pub node : Node
  pub held : maps.get nodes number ≡ Some node
  pub above : Node
  pub over : maps.get nodes node.parent ≡ Some above
  pub key : ℕ
  pub small : key < 65536
  pub here : place ≡ place_of node.parent key
  pub path : node.path ≡ step_from above.path key name

-- the root is a directory with the empty path
pub record IsRoot (nodes : Nodes) : Type 0 where
  pub node : Node
  pub held : maps.get nodes 0 ≡ Some node
  pub path : node.path ≡ []
  pub kind : node.bytes ≡ None

-- the nodes are a tree, and an entry stands in the index exactly where its node is
pub record IsTree (nodes : Nodes) (places : Places) : Type 0 where
  pub root : IsRoot nodes
  pub placed : (number : ℕ) (node : Node) → maps.get nodes number ≡ Some node → (number ≡ 0 → ⊥) → IsPlaced nodes places number node
  pub listed : (place : ℕ) (name : List ℕ) (number : ℕ) → number_at places place name ≡ Some number → IsListed nodes place name number
  pub unique : (a b : ℕ) (x y : Node) → maps.get nodes a ≡ Some x → maps.get nodes b ≡ Some y → x.path ≡ y.path → a ≡ b

-- the node that is added to a directory
abbrev pub added : Nodes → ℕ → ℕ → List ℕ → ℕ → Option (List ℕ) → Node
added nodes directory key name label bytes =
    record { parent = directory; path = step_from (path_in nodes directory) key name; label = label; bytes = bytes }

-- the nodes with another in the place of one, if it is there
abbrev pub in_place : Nodes → ℕ → (Node → Node) → Option Node → Nodes
in_place nodes number other None = nodes
in_place nodes number other (Some node) = maps.insert nodes number (other node)

-- the nodes with another label of one
abbrev pub relabelled : Nodes → ℕ → ℕ → Nodes
relabelled nodes number label =
    in_place nodes number (λ node. record { parent = node.parent; path = node.path; label = label; bytes = node.bytes }) (maps.get nodes number)

-- there is a node, and it is a file
abbrev pub is_file : Option Node → Bool
is_file None = false
is_file (Some node) = not (is_directory_node node.bytes)

-- the nodes with other bytes of one
abbrev pub with_bytes : Nodes → ℕ → List ℕ → Nodes
with_bytes nodes number bytes =
    in_place nodes number (λ node. record { parent = node.parent; path = node.path; label = node.label; bytes = Some bytes }) (maps.get nodes number)

-- the bytes of a node, if it is there and a file
abbrev pub bytes_of : Option Node → List ℕ
bytes_of None = []
bytes_of (Some node) = unwrap_or node.bytes []

-- numbers by names are those of the entries below a path under a key
abbrev pub IsShelf : Nodes → List Step → ℕ → Numbers → Type 0
IsShelf nodes path key shelf =
    (name : List ℕ) → MatchOption (maps.get shelf name) (IsFree nodes (step_from path key name)) (IsAt nodes (step_from path key name))

-- the names of the entries below a path under a key, in byte order, without the first `skip` and at most `most`
pub record IsPage (nodes : Nodes) (path : List Step) (key skip most : ℕ) (names : List (List ℕ)) : Type 0 where
  pub shelf : Numbers
  pub each : IsShelf nodes path key shelf
  pub page : names ≡ take most (drop skip (maps.keys shelf))

-- how many entries stand below a path under a key
pub record IsCount (nodes : Nodes) (path : List Step) (key count : ℕ) : Type 0 where
  pub shelf : Numbers
  pub each : IsShelf nodes path key shelf
  pub all : count ≡ maps.len shelf

-- some entry stands right below a path
pub record HasEntry (nodes : Nodes) (path : List Step) : Type 0 where
  pub step : Step
  pub number : ℕ
  pub there : IsAt nodes (path ++ step ∷ []) number

-- no two nodes stand at one path
abbrev pub ArePathsOnce : Nodes → Type 0
ArePathsOnce nodes = (a b : ℕ) (path : List Step) → IsAt nodes path a → IsAt nodes path b → a ≡ b

-- a node stands in its parent, which is a directory
pub record IsInParent (nodes : Nodes) (node : Node) : Type 0 where
  pub step : Step
  pub above : Node
  pub over : maps.get nodes node.parent ≡ Some above
  pub kind : above.bytes ≡ None
  pub path : node.path ≡ above.path ++ step ∷ []

-- every node but the root stands in its parent
abbrev pub AreInParents : Nodes → Type 0
AreInParents nodes = (number : ℕ) (node : Node) → maps.get nodes number ≡ Some node → (number ≡ 0 → ⊥) → IsInParent nodes node

-- whether a slot holds a node that stands in a directory
abbrev pub is_in : ℕ → Option Node → Bool
is_in directory None = false
is_in directory (Some node) = node.parent == directory && not (length node.path == 0)
