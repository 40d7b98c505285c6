-- Hops: from one type to another by one question that a version allows.
use Rattle.std.specs.Prelude.{ℕ, Bool, ◌&&◌, nat_lt, List, length, Option}
use Rattle.std.specs.Option.{option_map}
use Rattle.std.specs.List.{find, list_any}
use Rattle.std.specs.Str.{bytes_eq}
use Rattle.flask_sid.specs.declared.context.ContextOf.{ContextOf}
use Rattle.access_vectors.specs.Table.{Permission}
use Rattle.access_vectors.specs.Vectors.{has}
use Rattle.policy_model.specs.declared.policy.PolicyParts.{PolicyParts}
use Rattle.policy_model.specs.Deciding.{vector_of}
use Rattle.policy_versions.specs.Places.{kind_at}
use Rattle.flow_query.specs.declared.route.Kind.{Kind}
use Rattle.flow_query.specs.declared.route.Way.{Way}
use Rattle.flow_query.specs.declared.route.Way.TheVariants.{Writing, Reading}
use Rattle.flow_query.specs.declared.hop.Hop.{Hop}
use Rattle.flow_query.specs.Routes.{Route, routes}

-- the hop between two types along a route: writing asks whether the first may on the second, and reading whether the second
-- may on the first
unfoldable pub hop_along : ℕ → ℕ → Route → Hop
hop_along from to route = asking route.1
  where
    asking : Way → Hop
    asking Writing = record { from = from; to = to; s = from; t = to; perm = route.0 }
    asking Reading = record { from = from; to = to; s = to; t = from; perm = route.0 }

-- a version allows a permission of one type on another
unfoldable pub is_allowed : PolicyParts → ℕ → ℕ → ℕ → Permission → Bool
is_allowed policy version s t perm = has (vector_of policy version (kind_at policy s) (kind_at policy t) perm.class) perm.index

-- and so the question of a hop
abbrev pub is_allowed_hop : PolicyParts → ℕ → Hop → Bool
is_allowed_hop policy version hop = is_allowed policy version hop.s hop.t hop.perm

-- a version allows the question by which a route leads from one type to another
abbrev pub is_open : PolicyParts → ℕ → ℕ → ℕ → Route → Bool
is_open policy version from to route = is_allowed_hop policy version (hop_along from to route)

-- the hop from one type to another, by the first question that the version allows
unfoldable pub hop_between : PolicyParts → ℕ → Kind → ℕ → ℕ → Option Hop
hop_between policy version kind from to = option_map (hop_along from to) (find (is_open policy version from to) (routes kind))

-- some context has the type
abbrev pub has_type : List (ContextOf (List ℕ)) → List ℕ → Bool
has_type contexts name = list_any (λ context. bytes_eq context.kind name) contexts

-- a declared type, by its place, that some context has
unfoldable pub is_node : PolicyParts → List (ContextOf (List ℕ)) → ℕ → Bool
is_node policy contexts place = nat_lt place (length policy.kinds) && has_type contexts (kind_at policy place)
