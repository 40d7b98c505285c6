-- Where a version allows what a `neverallow` line forbids.
use Rattle.std.specs.Prelude.{◌≡◌, ◌<◌, ℕ, zero, suc, Bool, ◌&&◌, List, [], ◌∷◌, length, Option, Some, None, if◌then◌else◌}
use Rattle.std.specs.Option.{option_map}
use Rattle.access_vectors.specs.declared.class.Class.{Class}
use Rattle.access_vectors.specs.Table.{Permission, perm_count}
use Rattle.access_vectors.specs.Vectors.{has}
use Rattle.policy_model.specs.declared.policy.Pattern.{Pattern}
use Rattle.policy_model.specs.declared.policy.PolicyParts.{PolicyParts}
use Rattle.policy_model.specs.declared.policy.WhoOf.{WhoOf}
use Rattle.policy_model.specs.Matching.{matches_target, matches_permission}
use Rattle.policy_model.specs.Deciding.{or_else, vector_of}
use Rattle.policy_versions.specs.declared.broken.Break.{Break}
use Rattle.policy_versions.specs.Sets.{has_place}
use Rattle.policy_versions.specs.Places.{kind_at}

-- the first answer among those at the numbers below n
unfoldable pub first_below : {X : Type 0} → ℕ → (ℕ → Option X) → Option X
first_below zero answer = None
first_below (suc n) answer = or_else (first_below n answer) (answer n)

-- the first answer among those for the members of a list
abbrev pub first_of : {X Y : Type 0} → (X → Option Y) → List X → Option Y
first_of answer [] = None
first_of answer (x ∷ xs) = or_else (answer x) (first_of answer xs)

-- a version allows the permission at an index of a line's class, which the line forbids, for the types at two places
unfoldable pub is_broken : PolicyParts → ℕ → Pattern → ℕ → ℕ → ℕ → Bool
is_broken policy version pattern s t index =
    matches_permission policy.attributes pattern (kind_at policy s) (kind_at policy t) (record { class = pattern.class; index = index })
    && has (vector_of policy version (kind_at policy s) (kind_at policy t) pattern.class) index

-- a permission of a class that is forbidden and allowed
abbrev pub common : Class → ℕ → ℕ → ℕ → Option Permission
common class forbidden allowed index = if has forbidden index && has allowed index then Some (record { class = class; index = index }) else None

-- a set has the targets that a line matches for any source, and no other declared type
abbrev pub AreTargets : PolicyParts → WhoOf (List ℕ) → List ℕ → Type 0
AreTargets policy who words =
    (s : List ℕ) (place : ℕ) → place < length policy.kinds → has_place words place ≡ matches_target policy.attributes who s (kind_at policy place)

-- the first permission for which a version breaks a line at two places
unfoldable pub broken_perm : PolicyParts → ℕ → Pattern → ℕ → ℕ → Option Permission
broken_perm policy version pattern s t =
    first_below (perm_count pattern.class)
    (λ index. if is_broken policy version pattern s t index then Some (record { class = pattern.class; index = index }) else None)

-- a version breaks a line for the types at two places and a permission
abbrev pub break_with : ℕ → Pattern → ℕ → ℕ → Permission → Break
break_with version pattern s t perm = record { version = version; line = pattern.line; s = s; t = t; perm = perm }

-- how a version breaks a line first for the types at two places
abbrev pub break_at : PolicyParts → ℕ → Pattern → ℕ → ℕ → Option Break
break_at policy version pattern s t = option_map (break_with version pattern s t) (broken_perm policy version pattern s t)

-- how a version breaks a line first for the source at a place
unfoldable pub break_from : PolicyParts → ℕ → Pattern → ℕ → Option Break
break_from policy version pattern s = first_below (length policy.kinds) (break_at policy version pattern s)

-- how a version breaks a line first
unfoldable pub break_of : PolicyParts → ℕ → Pattern → Option Break
break_of policy version pattern = first_below (length policy.kinds) (break_from policy version pattern)

-- how a version breaks the first of the lines that it breaks
unfoldable pub break_in : PolicyParts → ℕ → Option Break
break_in policy version = first_of (break_of policy version) policy.nevers

-- the first break of a policy: by version, then line, source, target and permission
unfoldable pub first_break : PolicyParts → Option Break
first_break policy = first_below (length policy.versions) (break_in policy)
