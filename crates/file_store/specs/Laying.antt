-- How the nodes of an opening come to stand in the tree.
use Rattle.std.specs.Prelude.{◌≡◌, ℕ, ◌<◌, true, false, List, [], length, Some, None, option_map}
use Rattle.std.specs.FinMap as maps
use Rattle.file_tree.specs.PlainTree.{PlainTree, steps_of}
use Rattle.file_calls.specs.Openings.{has_directory, has_node, parent_of}
use Rattle.file_calls.specs.declared.opening.Node.{Node}

-- a directory stands at a path of names
abbrev pub IsDirectoryAt : PlainTree → List (List ℕ) → Type 0
IsDirectoryAt tree path = option_map (λ item. item.bytes) (maps.get tree (steps_of path)) ≡ Some None

-- something may be laid at a path of names: below the root, in a directory of the tree, where nothing stands
pub record MayLay (tree : PlainTree) (path : List (List ℕ)) : Type 0 where
  pub below : 0 < length path
  pub parent : IsDirectoryAt tree (parent_of path)
  pub free : maps.get tree (steps_of path) ≡ None

-- a tree has the root and these nodes, and nothing else at a path of names
pub record HasLaid (tree : PlainTree) (nodes : List Node) : Type 0 where
  pub root : IsDirectoryAt tree []
  pub directories : (path : List (List ℕ)) → has_directory nodes path ≡ true → IsDirectoryAt tree path
  pub free : (path : List (List ℕ)) → 0 < length path → has_node nodes path ≡ false → maps.get tree (steps_of path) ≡ None
