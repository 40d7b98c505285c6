-- The plain tree: a finite map from paths to what stands there.
use Rattle.std.specs.Prelude.{◌≡◌, ℕ, Bool, true, ◌&&◌, ◌==◌, List, [], ◌∷◌, Option, None, Some, is_some, option_map, map, if◌then◌else◌}
use Rattle.std.specs.List.{list_any, filter_map}
use Rattle.std.specs.Str.{bytes_eq}
use Rattle.std.specs.declared.cmp.Ordering.{Ordering}
use Rattle.std.specs.Ordering.{nat_cmp, then_cmp, on}
use Rattle.std.specs.Cmp.Lexicographic.{slice_cmp}
use Rattle.std.specs.FinMap as maps
use Rattle.std.specs.FinMap.{FinMap}
use Rattle.file_tree.specs.declared.step.Step.{Step}
use Rattle.file_tree.specs.declared.node.Node.{Node}
use Rattle.file_tree.specs.Nodes.{Nodes, ArePathsOnce, AreInParents, is_directory, path_in}

-- the order of steps: by key, and then by name in byte order
abbrev pub step_cmp : Step → Step → Ordering
step_cmp = then_cmp (on (λ step. step.key) nat_cmp) (on (λ step. step.name) (slice_cmp nat_cmp))

-- two steps have the same key and name
abbrev pub same_step : Step → Step → Bool
same_step a b = a.key == b.key && bytes_eq a.name b.name

-- the steps of a path of names under key 0
abbrev pub steps_of : List (List ℕ) → List Step
steps_of names = map (λ name. record { key = 0; name = name }) names

-- what stands at a path: a label, and the bytes of a file or none of a directory
pub record Item : Type 0 where
  pub label : ℕ
  pub bytes : Option (List ℕ)

-- what stands at each path
abbrev pub PlainTree : Type 0
PlainTree = FinMap (slice_cmp step_cmp) Item

-- what a node is, wherever it stands
abbrev pub item_of : Node → Item
item_of node = record { label = node.label; bytes = node.bytes }

-- the plain tree of numbered nodes
unfoldable pub plain : Nodes → PlainTree
plain nodes = maps.from_entries (map (λ row. (row.1.path, item_of row.1)) (maps.entries nodes))

-- a node has a number, stands at a path and is an item
pub record IsItemAt (nodes : Nodes) (path : List Step) (item : Item) : Type 0 where
  pub number : ℕ
  pub node : Node
  pub held : maps.get nodes number ≡ Some node
  pub at : node.path ≡ path
  pub is : item_of node ≡ item

-- each node stands at its path in the plain tree, and all that stands there is a node
pub record IsMirrored (nodes : Nodes) : Type 0 where
  pub stands : (number : ℕ) (node : Node) → maps.get nodes number ≡ Some node → maps.get (plain nodes) node.path ≡ Some (item_of node)
  pub standing : (path : List Step) (item : Item) → maps.get (plain nodes) path ≡ Some item → IsItemAt nodes path item

-- the nodes are a tree, with the root at number 0, and the plain tree shows them
pub record IsWellMade (nodes : Nodes) : Type 0 where
  pub root : is_directory (maps.get nodes 0) ≡ true
  pub root_path : path_in nodes 0 ≡ []
  pub once : ArePathsOnce nodes
  pub parents : AreInParents nodes
  pub mirrored : IsMirrored nodes

-- the plain tree without what a node is, if it is there
abbrev pub plain_without : PlainTree → Option Node → PlainTree
plain_without tree None = tree
plain_without tree (Some node) = maps.remove tree node.path

-- the plain tree with another label of what a node is, if it is there
abbrev pub plain_relabelled : PlainTree → ℕ → Option Node → PlainTree
plain_relabelled tree label None = tree
plain_relabelled tree label (Some node) = maps.insert tree node.path (record { label = label; bytes = node.bytes })

-- the plain tree with other bytes of what a node is, if it is there
abbrev pub plain_with_bytes : PlainTree → List ℕ → Option Node → PlainTree
plain_with_bytes tree bytes None = tree
plain_with_bytes tree bytes (Some node) = maps.insert tree node.path (record { label = node.label; bytes = Some bytes })

-- the item of a numbered node, if there is one
abbrev pub item_in : Nodes → Option ℕ → Option Item
item_in nodes None = None
item_in nodes (Some number) = option_map item_of (maps.get nodes number)

-- the step by which a path stands right below another, if it does
abbrev pub step_below : List Step → List Step → Option Step
step_below [] (step ∷ []) = Some step
step_below (first ∷ path) (step ∷ at) = if same_step first step then step_below path at else None
step_below path at = None

-- the name of a step under a key, if it is under that key
abbrev pub name_under : ℕ → Option Step → Option (List ℕ)
name_under key None = None
name_under key (Some step) = if step.key == key then Some step.name else None

-- what stands right below a path under a key, by its names
unfoldable pub shelf_below : PlainTree → List Step → ℕ → FinMap (slice_cmp nat_cmp) Item
shelf_below tree path key = maps.from_entries (filter_map (λ row. option_map (λ name. (name, row.1)) (name_under key (step_below path row.0))) (maps.entries tree))

-- the names right below a path under a key, in byte order
abbrev pub names_below : PlainTree → List Step → ℕ → List (List ℕ)
names_below tree path key = maps.keys (shelf_below tree path key)

-- something stands right below a path, under any key
unfoldable pub has_entry_below : PlainTree → List Step → Bool
has_entry_below tree path = list_any (λ at. is_some (step_below path at)) (maps.keys tree)
