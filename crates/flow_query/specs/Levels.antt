-- Distances from the end of a path, and the nodes at each of them.
use Rattle.std.specs.Prelude.{◌≡◌, ℕ, ◌<◌, Bool, true, ◌==◌, List, [], ◌∷◌, length, slice_get, Option, Some, None}
use Rattle.std.specs.List.{list_any}
use Rattle.flow_query.specs.declared.hop.Hop.{Hop}
use Rattle.flow_query.specs.Paths.{Graph, IsPath}

-- a path of so many hops leads from one node to another
pub record HasPath (g : Graph) (from to hops : ℕ) : Type 0 where
  pub path : List Hop
  pub leads : IsPath g from to path
  pub long : length path ≡ hops

-- a node is at a distance from the end: a path of so many hops leads to it, and none of fewer
pub record IsAt (g : Graph) (to distance node : ℕ) : Type 0 where
  pub path : HasPath g node to distance
  pub least : (fewer : ℕ) → fewer < distance → HasPath g node to fewer → ⊥

-- a list has a number
abbrev pub has_number : List ℕ → ℕ → Bool
has_number numbers number = list_any (λ other. other == number) numbers

-- a number is below each of these
abbrev pub IsBelowAll : ℕ → List ℕ → Type 0
IsBelowAll number [] = Unit {0}
IsBelowAll number (next ∷ numbers) = (number < next) × IsBelowAll number numbers

-- the numbers rise
abbrev pub IsAscending : List ℕ → Type 0
IsAscending [] = Unit {0}
IsAscending (number ∷ numbers) = IsBelowAll number numbers × IsAscending numbers

-- nodes in the order of declaration
pub record AreNodes (g : Graph) (nodes : List ℕ) : Type 0 where
  pub each : (node : ℕ) → has_number nodes node ≡ true → g.node node ≡ true
  pub ascending : IsAscending nodes

-- all nodes in the order of declaration
pub record AreAllNodes (g : Graph) (nodes : List ℕ) : Type 0 where
  pub are : AreNodes g nodes
  pub every : (node : ℕ) → g.node node ≡ true → has_number nodes node ≡ true

-- the nodes at a distance from the end, in the order of declaration
pub record IsLevel (g : Graph) (to distance : ℕ) (level : List ℕ) : Type 0 where
  pub are : AreNodes g level
  pub at : (node : ℕ) → has_number level node ≡ true → IsAt g to distance node
  pub every : (node : ℕ) → g.node node ≡ true → IsAt g to distance node → has_number level node ≡ true

-- levels by their distances, from the end on
abbrev pub AreLevels : Graph → ℕ → List (List ℕ) → Type 0
AreLevels g to levels = (distance : ℕ) (level : List ℕ) → slice_get levels distance ≡ Some level → IsLevel g to distance level

-- the levels below the distance of a node
pub record AreLevelsBelow (g : Graph) (from to : ℕ) (levels : List (List ℕ)) : Type 0 where
  pub are : AreLevels g to levels
  pub at : IsAt g to (length levels) from

-- the first of two answers, and the second where the first is none
abbrev pub first_hop_after : Option Hop → Option Hop → Option Hop
first_hop_after (Some hop) rest = Some hop
first_hop_after None rest = rest

-- the first hop into these nodes, where it is known which hop leads into each
abbrev pub first_hop : (ℕ → Option Hop) → List ℕ → Option Hop
first_hop hop_to [] = None
first_hop hop_to (node ∷ nodes) = first_hop_after (hop_to node) (first_hop hop_to nodes)
