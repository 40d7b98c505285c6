-- The vectors of a policy's versions, by the places of types.
use Rattle.std.specs.Prelude.{◌≡◌, ℕ, ◌<◌, length}
use Rattle.access_vectors.specs.declared.class.Class.{Class}
use Rattle.policy_model.specs.declared.policy.PolicyParts.{PolicyParts}
use Rattle.policy_model.specs.Deciding.{vector_of}
use Rattle.policy_versions.specs.declared.vectors.VectorRows.{VectorRows}
use Rattle.policy_versions.specs.Places.{kind_at}
use Rattle.policy_versions.specs.Cells.{cell_at}

-- the vector that rows have for a version, the places of a source's and a target's type, and a class
abbrev pub vector_at : VectorRows → ℕ → ℕ → ℕ → Class → ℕ
vector_at rows version s t class = cell_at rows.table version s t class

-- for any two declared types rows have the vectors that a policy's versions decide
abbrev pub AreVectorsOf : PolicyParts → VectorRows → Type 0
AreVectorsOf policy rows =
    (version s t : ℕ) (class : Class) → s < length policy.kinds → t < length policy.kinds
    → vector_at rows version s t class ≡ vector_of policy version (kind_at policy s) (kind_at policy t) class
