-- What rows of words tell: between which types no route is open.
use Rattle.std.specs.Prelude.{◌≡◌, ℕ, ◌<◌, Bool, true, false, List, [], length, slice_index_or}
use Rattle.std.specs.List.{All}
use Rattle.flask_sid.specs.declared.context.ContextOf.{ContextOf}
use Rattle.access_vectors.specs.declared.class.Class.{Class}
use Rattle.access_vectors.specs.Vectors.{has}
use Rattle.policy_model.specs.declared.policy.PolicyParts.{PolicyParts}
use Rattle.policy_versions.specs.declared.vectors.VectorRows.{VectorRows}
use Rattle.policy_versions.specs.Sets.{has_place}
use Rattle.policy_versions.specs.Vectors.{vector_at}
use Rattle.flow_query.specs.declared.route.Way.{Way}
use Rattle.flow_query.specs.declared.words.Words.{Words}
use Rattle.flow_query.specs.declared.words.Reach.{Reach}
use Rattle.flow_query.specs.Routes.{Route}
use Rattle.flow_query.specs.Hops.{is_node}

-- the words of no target
abbrev pub no_words : Words
no_words = record { words = [] }

-- the word of a source and a target is not 0
abbrev pub is_met : Reach → ℕ → ℕ → Bool
is_met reach s t = has_place (slice_index_or reach.rows.items s no_words).words t

-- permissions of a class have that of a route, where it is of this class and goes this way
abbrev pub HasRoute : Class → Way → ℕ → Route → Type 0
HasRoute class way perms route = route.0.class ≡ class → route.1 ≡ way → has perms route.0.index ≡ true

-- a route that goes this way is not open: the source has not its permission on the target
abbrev pub IsShut : VectorRows → ℕ → Way → ℕ → ℕ → Route → Type 0
IsShut rows version way s t route = route.1 ≡ way → has (vector_at rows version s t route.0.class) route.0.index ≡ false

-- where a word is 0 none of these routes that goes this way is open
abbrev pub Tells : Reach → VectorRows → ℕ → List Route → Way → Type 0
Tells reach rows version routes way =
    (s t : ℕ) → s < 128 → t < 128 → is_met reach s t ≡ false → All (IsShut rows version way s t) routes

-- the word of a declared type is not 0 where some context has it
abbrev pub AreMarks : PolicyParts → List (ContextOf (List ℕ)) → List ℕ → Type 0
AreMarks policy contexts marks = (place : ℕ) → place < length policy.kinds → has_place marks place ≡ is_node policy contexts place
