-- Tables: the rows of all versions and classes.
use Rattle.std.specs.Prelude.{◌≡◌, ℕ, ◌+◌, ◌<◌, ◌≤◌, List, length, slice_get, slice_index, slice_index_or, Option, Some, None}
use Rattle.access_vectors.specs.declared.class.Class.{Class}
use Rattle.access_vectors.specs.declared.class.Class.TheVariants.{File, Dir, Process, Port, Security}
use Rattle.policy_model.specs.declared.policy.PolicyParts.{PolicyParts}
use Rattle.policy_model.specs.declared.policy.RuleLine.{RuleLine}
use Rattle.policy_model.specs.Deciding.{rules_at}
use Rattle.policy_versions.specs.declared.change.Content.{Content}
use Rattle.policy_versions.specs.declared.row.Row.{Row}
use Rattle.policy_versions.specs.declared.table.Table.{Table}
use Rattle.policy_versions.specs.Changes.{cell_of, no_row, Tells}

-- the place of a class in the order of the classes
abbrev pub class_place : Class → ℕ
class_place File = 0
class_place Dir = 1
class_place Process = 2
class_place Port = 3
class_place Security = 4

-- the cell in the rows of a version, whose classes begin at these places: 0 where there is no such version
abbrev pub cell_under : List Row → Option (List ℕ) → Class → ℕ → ℕ → ℕ
cell_under rows None class s t = 0
cell_under rows (Some firsts) class s t = cell_of rows (slice_index firsts (class_place class) + s) t

-- the cell of a version, a class, a source and a target
abbrev pub cell_at : Table → ℕ → ℕ → ℕ → Class → ℕ
cell_at table version s t class = cell_under table.rows.items (slice_get table.firsts.items version) class s t

-- the rows of a block stand in a list of rows from a place on
pub record StandsAt (rows block : List Row) (first : ℕ) : Type 0 where
  pub within : first + 128 ≤ length rows
  pub same : (s : ℕ) → s < 128 → slice_index_or rows (first + s) no_row ≡ slice_index_or block s no_row

-- rows stay where they are, and more may come behind them
pub record KeepsRows (before after : List Row) : Type 0 where
  pub grows : length before ≤ length after
  pub same : (place : ℕ) → place < length before → slice_index_or after place no_row ≡ slice_index_or before place no_row

-- the rows from a place on tell what rule lines decide for a class
pub record TellFrom (content : Content) (policy : PolicyParts) (rules : List RuleLine) (class : Class) (rows : List Row) (first : ℕ) : Type 0 where
  pub within : first + 128 ≤ length rows
  pub tell : (s t : ℕ) → s < length policy.kinds → t < length policy.kinds → Tells content policy rules class s t (cell_of rows (first + s) t)

-- the rows from these places on tell what rule lines decide for each class
abbrev pub AllTellFrom : Content → PolicyParts → List RuleLine → List Row → List ℕ → Type 0
AllTellFrom content policy rules rows firsts = (class : Class) → TellFrom content policy rules class rows (slice_index firsts (class_place class))

-- a table tells what a policy's versions decide
abbrev pub TableTells : Content → PolicyParts → Table → Type 0
TableTells content policy table =
    (version s t : ℕ) (class : Class) → s < length policy.kinds → t < length policy.kinds
    → Tells content policy (rules_at policy version) class s t (cell_at table version s t class)
