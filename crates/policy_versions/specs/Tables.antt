-- What the tables of a compiled policy decide.
use Rattle.std.specs.Prelude.{ℕ, ◌-◌, length, Option, Some, None, if◌then◌else◌}
use Rattle.access_vectors.specs.declared.class.Class.{Class}
use Rattle.access_vectors.specs.Decisions.{Decisions}
use Rattle.policy_model.specs.declared.policy.Labelling.TheVariants.{Member}
use Rattle.policy_versions.specs.declared.contexts.Contexts.{Contexts}
use Rattle.policy_versions.specs.declared.vectors.VectorRows.{VectorRows}
use Rattle.policy_versions.specs.declared.given.GivenRows.{GivenRows}
use Rattle.policy_versions.specs.declared.place.Place.{Place}
use Rattle.policy_versions.specs.Vectors.{vector_at}
use Rattle.policy_versions.specs.Given.{given_at}
use Rattle.policy_versions.specs.Gives.{GivenPlaces}
use Rattle.policy_versions.specs.Numbers.{object_row, made_row, made_kind}
use Rattle.policy_versions.specs.Orders.{place_at}
use Rattle.policy_versions.specs.Identifiers.{cell_in}
use Rattle.policy_versions.specs.Judging.{is_sid, is_asked}

-- the place of an identifier's context
abbrev pub place_with : Contexts → ℕ → Place
place_with contexts sid = place_at contexts.places.items (sid - 1)

-- the identifier of the label of a new object, by the places of source and target
abbrev pub label_cell : Contexts → GivenPlaces → ℕ → Place → Place → Class → ℕ
label_cell contexts given version s t class =
    cell_in contexts.cells.items (made_row contexts.users s.row class) (made_kind given version s.kind t.kind class)

-- the identifier of the member of a set that is led to by a type, if one is given: that of the target t where none is
abbrev pub led_cell : Contexts → Place → ℕ → Option ℕ → ℕ
led_cell contexts s t None = t
led_cell contexts s t (Some kind) = cell_in contexts.cells.items (object_row contexts.users s.row) kind

-- what tables decide
unfoldable pub decisions_by : ℕ → Contexts → VectorRows → GivenRows → Decisions
decisions_by versions contexts vectors given = record {
  versions = versions;
  known = is_sid (length contexts.sids);
  vector = λ version s t class.
      if is_asked versions (length contexts.sids) version s t
      then vector_at vectors version (place_with contexts s).kind (place_with contexts t).kind class
      else 0;
  label = λ version s t class.
      if is_asked versions (length contexts.sids) version s t
      then label_cell contexts (given_at given) version (place_with contexts s) (place_with contexts t) class
      else 0;
  member = λ version s t class.
      if is_asked versions (length contexts.sids) version s t
      then led_cell contexts (place_with contexts s) t (given_at given Member version (place_with contexts s).kind (place_with contexts t).kind class)
      else 0;
}
