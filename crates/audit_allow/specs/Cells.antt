-- Denied permissions by the places of two types and the class, as rows of a key and a vector.
use Rattle.std.specs.Prelude.{◌≡◌, ℕ, ◌+◌, ◌*◌, ◌<◌, List, length, unwrap_or}
use Rattle.std.specs.Map.{lookup}
use Rattle.std.specs.BTreeMap.{is_at}
use Rattle.std.specs.Ordering.{nat_cmp}
use Rattle.access_vectors.specs.declared.class.Class.{Class}
use Rattle.access_vectors.specs.Table.{Permission, code_of}
use Rattle.access_vectors.specs.Vectors.{has}
use Rattle.policy_versions.specs.Places.{kind_at}
use Rattle.audit_allow.specs.Denials.{Lesson, is_denied}

-- the key of a cell
abbrev pub cell_key : ℕ → ℕ → Class → ℕ
cell_key s t class = 1024 * s + 8 * t + code_of class

-- the vector in the cell at a key, which is empty where there is no row
unfoldable pub vector_at : List (ℕ × ℕ) → ℕ → ℕ
vector_at rows key = unwrap_or (lookup (is_at (nat_cmp key)) rows) 0

-- the cells have the permissions that were denied
abbrev pub AreDenied : Lesson → List (ℕ × ℕ) → Type 0
AreDenied lesson rows =
    (s t : ℕ) (perm : Permission) → s < length lesson.policy.kinds → t < length lesson.policy.kinds
    → has (vector_at rows (cell_key s t perm.class)) perm.index ≡ is_denied lesson.contexts lesson.asked (kind_at lesson.policy s) (kind_at lesson.policy t) perm
