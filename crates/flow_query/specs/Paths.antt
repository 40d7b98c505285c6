-- Paths, and which of them is the answer: the shortest, and of those the first.
use Rattle.std.specs.Prelude.{◌≡◌, ℕ, ◌<◌, ◌≤◌, ◌⊎◌, Bool, true, List, [], ◌∷◌, length, Option, Some}
use Rattle.flask_sid.specs.declared.context.ContextOf.{ContextOf}
use Rattle.policy_model.specs.declared.policy.PolicyParts.{PolicyParts}
use Rattle.flow_query.specs.declared.route.Kind.{Kind}
use Rattle.flow_query.specs.declared.hop.Hop.{Hop}
use Rattle.flow_query.specs.Hops.{hop_between, is_node}

-- what paths are made of: nodes by their places, and the hop from one to another, if there is one
pub record Graph : Type 0 where
  pub node : ℕ → Bool
  pub hop : ℕ → ℕ → Option Hop

-- what is asked of: a policy, its contexts, one of its versions, and what is looked for
pub record Query : Type 0 where
  pub policy : PolicyParts
  pub contexts : List (ContextOf (List ℕ))
  pub version : ℕ
  pub kind : Kind

-- the graph in which it is looked for
abbrev pub graph_of : Query → Graph
graph_of query = record { node = is_node query.policy query.contexts; hop = hop_between query.policy query.version query.kind }

-- the empty path leads from a node to itself, and else hops that join lead from one node to another
abbrev pub IsPath : Graph → ℕ → ℕ → List Hop → Type 0
IsPath g from to [] = from ≡ to
IsPath g from to (hop ∷ hops) = (g.hop from hop.to ≡ Some hop) × (g.node hop.to ≡ true) × IsPath g hop.to to hops

-- the nodes of one path are those of another, or at the first that differ it has the one that is declared earlier
abbrev pub IsNotAfter : List Hop → List Hop → Type 0
IsNotAfter [] others = Unit {0}
IsNotAfter (hop ∷ hops) [] = ⊥
IsNotAfter (hop ∷ hops) (other ∷ others) = (hop.to < other.to) ⊎ ((hop.to ≡ other.to) × IsNotAfter hops others)

-- a path is the answer: none is shorter, and none as short comes before it
pub record IsAnswer (g : Graph) (from to : ℕ) (path : List Hop) : Type 0 where
  pub leads : IsPath g from to path
  pub shortest : (other : List Hop) → IsPath g from to other → length path ≤ length other
  pub first : (other : List Hop) → IsPath g from to other → length other ≡ length path → IsNotAfter path other

-- no path leads from one node to another
abbrev pub HasNoPath : Graph → ℕ → ℕ → Type 0
HasNoPath g from to = (path : List Hop) → IsPath g from to path → ⊥
