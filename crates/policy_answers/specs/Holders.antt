-- Who has a permission, and under which versions.
use Rattle.std.specs.Prelude.{ℕ, Bool, List, [], ◌∷◌, length, if◌then◌else◌}
use Rattle.access_vectors.specs.Table.{Permission}
use Rattle.access_vectors.specs.Vectors.{has}
use Rattle.policy_model.specs.declared.policy.PolicyParts.{PolicyParts}
use Rattle.policy_model.specs.Deciding.{vector_of}
use Rattle.policy_versions.specs.Places.{kind_at}
use Rattle.audit_allow.specs.Grants.{joined_below}
use Rattle.policy_answers.specs.Deciders.{deciding_line}
use Rattle.policy_answers.specs.declared.holding.Holder.{Holder}

-- a version allows sources of type s a permission on targets of type t
unfoldable pub allows : PolicyParts → ℕ → List ℕ → List ℕ → Permission → Bool
allows policy version s t perm = has (vector_of policy version s t perm.class) perm.index

-- the declared type at a place as one that has a permission, with the line by which it does: nothing where it has not
abbrev pub holder_at : PolicyParts → ℕ → List ℕ → Permission → ℕ → List Holder
holder_at policy version t perm s =
    if allows policy version (kind_at policy s) t perm
    then record { s = s; line = deciding_line policy version (kind_at policy s) t perm } ∷ [] else []

-- the declared types, in the order of declaration, that a version allows a permission on targets of type t
unfoldable pub holders : PolicyParts → ℕ → List ℕ → Permission → List Holder
holders policy version t perm = joined_below (length policy.kinds) (holder_at policy version t perm)

-- a version, where it allows sources of type s a permission on targets of type t
abbrev pub allowing_at : PolicyParts → List ℕ → List ℕ → Permission → ℕ → List ℕ
allowing_at policy s t perm version = if allows policy version s t perm then version ∷ [] else []

-- the versions, in their order, that allow sources of type s a permission on targets of type t
unfoldable pub allowing_versions : PolicyParts → List ℕ → List ℕ → Permission → List ℕ
allowing_versions policy s t perm = joined_below (length policy.versions) (allowing_at policy s t perm)
