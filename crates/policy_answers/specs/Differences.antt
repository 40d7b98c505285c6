-- Where two versions of a policy differ.
use Rattle.std.specs.Prelude.{ℕ, ◌==◌, List, [], ◌∷◌, length, if◌then◌else◌}
use Rattle.std.specs.List.{flat_map}
use Rattle.access_vectors.specs.declared.class.Class.{Class}
use Rattle.access_vectors.specs.Table.{classes}
use Rattle.policy_model.specs.declared.policy.PolicyParts.{PolicyParts}
use Rattle.policy_model.specs.Deciding.{vector_of}
use Rattle.policy_versions.specs.Places.{kind_at}
use Rattle.audit_allow.specs.Grants.{joined_below}
use Rattle.policy_answers.specs.declared.differing.Difference.{Difference}

-- two vectors of a class between the types at two places, where they are not the same
abbrev pub difference_of : ℕ → ℕ → Class → ℕ → ℕ → List Difference
difference_of s t class before after =
    if before == after then [] else record { s = s; t = t; class = class; before = before; after = after } ∷ []

-- the vector that a version decides for the types at two places
abbrev pub vector_between : PolicyParts → ℕ → ℕ → ℕ → Class → ℕ
vector_between policy version s t class = vector_of policy version (kind_at policy s) (kind_at policy t) class

-- where two versions differ in a class between the types at two places
abbrev pub differences_in : PolicyParts → ℕ → ℕ → ℕ → ℕ → Class → List Difference
differences_in policy v w s t class = difference_of s t class (vector_between policy v s t class) (vector_between policy w s t class)

-- between the types at two places, by class code
abbrev pub differences_between : PolicyParts → ℕ → ℕ → ℕ → ℕ → List Difference
differences_between policy v w s t = flat_map (differences_in policy v w s t) classes

-- for a source's type, by target
abbrev pub differences_from : PolicyParts → ℕ → ℕ → ℕ → List Difference
differences_from policy v w s = joined_below (length policy.kinds) (differences_between policy v w s)

-- all types and classes whose vectors differ between two versions, by source and target in the order of declaration, then by
-- class code
unfoldable pub differences : PolicyParts → ℕ → ℕ → List Difference
differences policy v w = joined_below (length policy.kinds) (differences_from policy v w)
