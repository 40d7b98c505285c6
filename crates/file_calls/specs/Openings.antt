-- Openings as a session may give them.
use Rattle.std.specs.Prelude.{◌≡◌, ℕ, ◌-◌, ◌<◌, Bool, true, false, ◌&&◌, ◌||◌, ◌==◌, IsTrue, List, [], ◌∷◌, ◌++◌, length, take, All}
use Rattle.std.specs.List.{list_any}
use Rattle.access_vectors.specs.Decisions.{Decisions}
use Rattle.file_tree.specs.Nodes.{is_directory_node}
use Rattle.file_calls.specs.Paths.{same_path}
use Rattle.file_calls.specs.declared.opening.Node.{Node}
use Rattle.file_calls.specs.declared.opening.FileOpening.{FileOpening}

-- how many nodes may be kept, the root among them
abbrev pub node_limit : ℕ
node_limit = 4096

-- how many bytes a file may have
abbrev pub byte_limit : ℕ
byte_limit = 65536

-- a directory of that path is among the nodes
unfoldable pub has_directory : List Node → List (List ℕ) → Bool
has_directory nodes path = list_any (λ node. is_directory_node node.bytes && same_path node.path path) nodes

-- something of that path is among the nodes
unfoldable pub has_node : List Node → List (List ℕ) → Bool
has_node nodes path = list_any (λ node. same_path node.path path) nodes

-- a path without its last part
abbrev pub parent_of : List (List ℕ) → List (List ℕ)
parent_of path = take (length path - 1) path

-- the directory in which a path stands is there: the root, or one of the nodes
unfoldable pub is_parent_there : List Node → List (List ℕ) → Bool
is_parent_there nodes path = length (parent_of path) == 0 || has_directory nodes (parent_of path)

-- a node may stand behind these: below the root, in a directory that is there, at a path that is free
pub record IsEntry (before : List Node) (node : Node) : Type 0 where
  pub below : 0 < length node.path
  pub parent : is_parent_there before node.path ≡ true
  pub free : has_node before node.path ≡ false

-- each of the nodes may stand behind those before it
abbrev pub AreEntries : List Node → List Node → Type 0
AreEntries before [] = Unit {0}
AreEntries before (node ∷ nodes) = IsEntry before node × AreEntries (before ++ node ∷ []) nodes

-- the nodes of an opening: each may stand behind those before it, and with the root they are at most 4,096
pub record AreNodes (nodes : List Node) : Type 0 where
  pub entries : AreEntries [] nodes
  pub few : length nodes < node_limit

-- every identifier of an opening is the decider's
abbrev pub IsOpening : Decisions → FileOpening → Type 0
IsOpening d opening =
    All (λ sid. IsTrue (d.known sid)) opening.clients × IsTrue (d.known opening.root) × All (λ node. IsTrue (d.known node.sid)) opening.nodes
