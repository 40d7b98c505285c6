-- Rows that grow.
use Rattle.std.specs.Prelude.{◌≡◌, ℕ, ◌<◌, ◌⊎◌, false, List, ◌++◌, length, map}
use Rattle.policy_model.specs.Deciding.{object_role}
use Rattle.policy_versions.specs.Numbers.{row_at, is_user_role, AreRows}
use Rattle.policy_versions.specs.declared.user_role.Holder.{Holder}
use Rattle.policy_versions.specs.declared.user_role.UserRole.{UserRole}

-- a list begins with another
pub record HasFront {X : Type 0} (list front : List X) : Type 0 where
  pub more : List X
  pub all : list ≡ front ++ more

-- a row is that of a user and a role
pub record IsRowOf (users : List UserRole) (row : ℕ) (user role : List ℕ) : Type 0 where
  pub within : row < length users
  pub user_is : (row_at users row).user ≡ user
  pub role_is : (row_at users row).role ≡ role

-- no row is that of a user and a role
abbrev pub IsNew : List UserRole → List ℕ → List ℕ → Type 0
IsNew users user role = (row : ℕ) → row < length users → is_user_role user role (row_at users row) ≡ false

-- a user with a role names the row of the user with the role of objects, which is its own where it comes next and has that role
abbrev pub HasObject : List UserRole → UserRole → Type 0
HasObject users one = ((one.object ≡ length users) × (one.role ≡ object_role)) ⊎ IsRowOf users one.object one.user object_role

-- the users with their roles, in the order of their rows
abbrev pub holders_of : List UserRole → List Holder
holders_of users = map (λ one. record { user = one.user; role = one.role }) users

-- rows, and the index of their users and roles
pub record AreRowsBy (users : List UserRole) (index : List Holder) : Type 0 where
  pub rows : AreRows users
  pub holders : index ≡ holders_of users
