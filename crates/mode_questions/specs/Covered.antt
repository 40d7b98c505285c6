-- Modes of which every permission is asked.
use Rattle.std.specs.Prelude.{◌≡◌, ℕ, true, List, ◌==◌, All}
use Rattle.std.specs.List.{list_any}
use Rattle.access_vectors.specs.Table.{Permission}
use Rattle.access_vectors.specs.Vectors.{has}
use Rattle.access_vectors.specs.declared.class.Class.{Class}

-- the permissions are of one class, and each permission of the mode is among them
pub record IsModeOf (class : Class) (perms : List Permission) (mode : ℕ) : Type 0 where
  pub classes : All (λ perm. perm.class ≡ class) perms
  pub covered : (index : ℕ) → has mode index ≡ true → list_any (λ perm. perm.index == index) perms ≡ true
