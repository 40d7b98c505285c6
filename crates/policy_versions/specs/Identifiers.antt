-- The identifiers of the contexts to which a policy leads.
use Rattle.std.specs.Prelude.{◌≡◌, ℕ, ◌+◌, ◌*◌, ◌<◌, ◌≤◌, List, length, slice_index}
use Rattle.std.specs.List.{All, IsDistinct}
use Rattle.flask_sid.specs.SidTables.{AreDistinct}
use Rattle.flask_sid.specs.declared.context.ContextOf.{ContextOf}
use Rattle.policy_model.specs.declared.policy.PolicyParts.{PolicyParts}
use Rattle.policy_versions.specs.Closure.{AreContexts}
use Rattle.policy_versions.specs.Numbers.{AreRows}
use Rattle.policy_versions.specs.Founds.{IsInside, is_same_place}
use Rattle.policy_versions.specs.Closing.{contexts_of, AllDerive}
use Rattle.policy_versions.specs.Orders.{place_at}
use Rattle.policy_versions.specs.declared.user_role.UserRole.{UserRole}
use Rattle.policy_versions.specs.declared.place.Place.{Place}

-- the cell of a row and a type
abbrev pub cell_in : List ℕ → ℕ → ℕ → ℕ
cell_in cells row kind = slice_index cells (row * 128 + kind)

-- the cell of each place has its position, counted from 1
abbrev pub AreCounted : List Place → List ℕ → Type 0
AreCounted places cells = (k : ℕ) → k < length places → cell_in cells (place_at places k).row (place_at places k).kind ≡ k + 1

-- the places of all contexts to which a policy leads, in the order of their identifiers
pub record AreOrdered (policy : PolicyParts) (users : List UserRole) (places : List Place) : Type 0 where
  pub few : length places ≤ 4095
  pub inside : All (IsInside (length users)) places
  pub derive : AllDerive policy users places
  pub distinct : IsDistinct is_same_place places
  pub apart : AreDistinct (contexts_of policy users places)
  pub contexts : AreContexts policy (contexts_of policy users places)

-- all contexts to which a policy leads have identifiers, in their order, and their places have these in their cells
pub record AreNumbered (policy : PolicyParts) (users : List UserRole) (places : List Place) (sids : List (ContextOf (List ℕ))) (cells : List ℕ) : Type 0 where
  pub rows : AreRows users
  pub contexts : AreContexts policy sids
  pub of_places : sids ≡ contexts_of policy users places
  pub few : length sids ≤ 4095
  pub inside : All (IsInside (length users)) places
  pub derive : AllDerive policy users places
  pub apart : AreDistinct sids
  pub counted : AreCounted places cells
