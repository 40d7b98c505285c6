-- Contexts by numbers: a row for each user with a role, and a column for each type.
use Rattle.std.specs.Prelude.{◌≡◌, ℕ, ◌+◌, ◌*◌, ◌<◌, ◌≤◌, ◌&&◌, ◌==◌, Bool, false, List, [], ◌∷◌, ◌++◌, length, slice_index_or, unwrap_or, if◌then◌else◌}
use Rattle.std.specs.List.{list_any}
use Rattle.std.specs.Str.{bytes_eq}
use Rattle.flask_sid.specs.declared.context.ContextOf.{ContextOf}
use Rattle.access_vectors.specs.declared.class.Class.{Class}
use Rattle.policy_model.specs.declared.policy.Labelling.TheVariants.{Transition}
use Rattle.policy_model.specs.declared.policy.PolicyParts.{PolicyParts}
use Rattle.policy_model.specs.Deciding.{takes_after_maker, object_role}
use Rattle.policy_versions.specs.Places.{kind_at}
use Rattle.policy_versions.specs.Gives.{GivenPlaces}
use Rattle.policy_versions.specs.Closure.{IsDerivable}
use Rattle.policy_versions.specs.declared.user_role.UserRole.{UserRole}
use Rattle.policy_versions.specs.declared.place.Place.{Place}

-- the user and the role of a row
abbrev pub row_at : List UserRole → ℕ → UserRole
row_at users row = slice_index_or users row (record { user = []; role = []; object = 0 })

-- the row of a row's user with the role of objects
abbrev pub object_row : List UserRole → ℕ → ℕ
object_row users row = (row_at users row).object

-- a row's user has a row with the role of objects, which the row names
pub record HasObjectRow (users : List UserRole) (row : ℕ) : Type 0 where
  pub within : object_row users row < length users
  pub user : (row_at users (object_row users row)).user ≡ (row_at users row).user
  pub role : (row_at users (object_row users row)).role ≡ object_role

-- the same user with the same role
abbrev pub is_user_role : List ℕ → List ℕ → UserRole → Bool
is_user_role user role one = bytes_eq one.user user && bytes_eq one.role role

-- each user with a role has one row, and so has each user with the role of objects
pub record AreRows (users : List UserRole) : Type 0 where
  pub apart : (i j : ℕ) → i < j → j < length users → is_user_role (row_at users j).user (row_at users j).role (row_at users i) ≡ false
  pub objects : (row : ℕ) → row < length users → HasObjectRow users row

-- the context of a row and a type
unfoldable pub context_at : PolicyParts → List UserRole → ℕ → ℕ → ContextOf (List ℕ)
context_at policy users row kind = record { user = (row_at users row).user; role = (row_at users row).role; kind = kind_at policy kind }

-- the type of a new object that a source of type s makes at a target of type t
abbrev pub made_kind : GivenPlaces → ℕ → ℕ → ℕ → Class → ℕ
made_kind given version s t class = unwrap_or (given Transition version s t class) (if takes_after_maker class then s else t)

-- the row of a new object that a source of that row makes
abbrev pub made_row : List UserRole → ℕ → Class → ℕ
made_row users row class = if takes_after_maker class then row else object_row users row

-- a place among others
abbrev pub is_place : ℕ → ℕ → Place → Bool
is_place row kind place = place.row == row && place.kind == kind

unfoldable pub has_place : List Place → ℕ → ℕ → Bool
has_place places row kind = list_any (is_place row kind) places

-- the places once one is among them: a new one goes last
abbrev pub with_place : List Place → Place → List Place
with_place places place = if has_place places place.row place.kind then places else places ++ place ∷ []

-- the cell of a row and a type is marked
unfoldable pub is_marked : List Bool → ℕ → ℕ → Bool
is_marked cells row kind = slice_index_or cells (row * 128 + kind) false

-- from this place on no type is marked in any row
pub record AreBelow (cells : List Bool) (bound : ℕ) : Type 0 where
  pub within : bound ≤ 128
  pub none : (row kind : ℕ) → bound ≤ kind → kind < 128 → is_marked cells row kind ≡ false

-- the policy leads to the context of a row and a type
abbrev pub Derives : PolicyParts → List UserRole → ℕ → ℕ → Type 0
Derives policy users row kind = IsDerivable policy (context_at policy users row kind)

-- some context that the policy leads to has the type
pub record IsPresent (policy : PolicyParts) (users : List UserRole) (kind : ℕ) : Type 0 where
  pub row : ℕ
  pub within : row < length users
  pub derives : Derives policy users row kind
