-- Cells, and what a line does to the cells that it matches.
use Rattle.std.specs.Prelude.{◌≡◌, ℕ, ◌+◌, ◌-◌, ◌<◌, ◌≤◌, Bool, true, ◌&&◌, List, [], length, replicate, slice_index, slice_index_or, Option, Some, None, if◌then◌else◌, bit_and, bit_or, nat_lt, nat_le}
use Rattle.std.specs.List.{All}
use Rattle.std.specs.Option.{option_map}
use Rattle.access_vectors.specs.declared.class.Class.{Class}
use Rattle.policy_model.specs.declared.policy.PolicyParts.{PolicyParts}
use Rattle.policy_model.specs.declared.policy.RuleLine.{RuleLine}
use Rattle.policy_model.specs.declared.policy.Verdict.{Verdict}
use Rattle.policy_model.specs.declared.policy.Verdict.TheVariants.{Allow, Withhold, Transition, Member}
use Rattle.policy_model.specs.declared.policy.Labelling.TheVariants as labelling
use Rattle.policy_model.specs.declared.policy.WhoOf.{WhoOf}
use Rattle.policy_model.specs.Declarations.{is_kind}
use Rattle.policy_model.specs.Kept.{IsRule}
use Rattle.policy_model.specs.Matching.{matches_source, matches_target}
use Rattle.policy_model.specs.Deciding.{decided_vector, last_said, gives_kind}
use Rattle.policy_versions.specs.declared.change.Change.{Change}
use Rattle.policy_versions.specs.declared.change.Content.{Content}
use Rattle.policy_versions.specs.declared.change.Content.TheVariants.{Vectors, Given}
use Rattle.policy_versions.specs.declared.row.Row.{Row}
use Rattle.policy_versions.specs.Places.{kind_at}

-- a cell after a change
abbrev pub changed : Change → ℕ → ℕ
changed change cell = bit_or (bit_and cell change.keep) change.put

-- a cell after a change, if there is one
abbrev pub changed_if : Bool → Change → ℕ → ℕ
changed_if applies change cell = if applies then changed change cell else cell

-- a row with no cell
abbrev pub no_row : Row
no_row = record { cells = [] }

-- a row whose cells are all 0
abbrev pub blank_row : Row
blank_row = record { cells = replicate 128 0 }

-- the first 128 of these rows are there, and blank
pub record AreBlank (rows : List Row) : Type 0 where
  pub within : 128 ≤ length rows
  pub same : (s : ℕ) → s < 128 → slice_index_or rows s no_row ≡ blank_row

-- the cell of a source and a target in rows of which each is a source's
abbrev pub cell_of : List Row → ℕ → ℕ → ℕ
cell_of rows s t = slice_index (slice_index_or rows s no_row).cells t

-- rows whose cells are changed where the source and the target pass a test
abbrev pub AreChanged : (ℕ → ℕ → Bool) → Change → List Row → List Row → Type 0
AreChanged matches change before after =
    (s t : ℕ) → s < 128 → t < 128 → cell_of after s t ≡ changed_if (matches s t) change (cell_of before s t)

-- rows whose cells are changed where a line of this source and target matches
abbrev pub AreMatchedChanged : PolicyParts → WhoOf (List ℕ) → WhoOf (List ℕ) → Change → List Row → List Row → Type 0
AreMatchedChanged policy source target change before after =
    (s t : ℕ) → s < length policy.kinds → t < length policy.kinds → cell_of after s t
    ≡ changed_if (matches_source policy.attributes source (kind_at policy s) && matches_target policy.attributes target (kind_at policy s) (kind_at policy t)) change (cell_of before s t)

-- rule lines that name what is declared
abbrev pub AreRules : PolicyParts → List RuleLine → Type 0
AreRules policy rules = All (IsRule policy.kinds policy.attributes) rules

-- the place of the type that a cell gives: none where it is 0, and else the place is one less
abbrev pub place_in : ℕ → Option ℕ
place_in cell = if nat_lt 0 cell && nat_le cell 128 then Some (cell - 1) else None

-- a cell gives a type, or none
pub record Gives (policy : PolicyParts) (cell : ℕ) (name : Option (List ℕ)) : Type 0 where
  pub within : cell ≤ length policy.kinds
  pub named : option_map (kind_at policy) (place_in cell) ≡ name

-- a cell tells what rule lines decide for two types and a class: the vector, or the type that is given
abbrev pub Tells : Content → PolicyParts → List RuleLine → Class → ℕ → ℕ → ℕ → Type 0
Tells Vectors policy rules class s t cell = cell ≡ decided_vector policy.attributes rules (kind_at policy s) (kind_at policy t) class
Tells (Given labelling) policy rules class s t cell =
    Gives policy cell (last_said (gives_kind labelling policy.attributes (kind_at policy s) (kind_at policy t) class) rules)

-- rows tell what rule lines decide for a class
abbrev pub AllTell : Content → PolicyParts → List RuleLine → Class → List Row → Type 0
AllTell content policy rules class rows =
    (s t : ℕ) → s < length policy.kinds → t < length policy.kinds → Tells content policy rules class s t (cell_of rows s t)

-- a change that puts the type of that name
pub record PutsKind (policy : PolicyParts) (name : List ℕ) (change : Option Change) : Type 0 where
  pub place : ℕ
  pub within : place < length policy.kinds
  pub named : kind_at policy place ≡ name
  pub puts : change ≡ Some (record { keep = 0; put = place + 1 })

-- a verdict gives no type that is not declared
abbrev pub GivesDeclared : PolicyParts → Verdict → Type 0
GivesDeclared policy (Allow perms) = Unit {0}
GivesDeclared policy (Withhold perms) = Unit {0}
GivesDeclared policy (Transition name) = is_kind policy.kinds name ≡ true
GivesDeclared policy (Member name) = is_kind policy.kinds name ≡ true

-- what a verdict changes in a table of this content
abbrev pub IsChangeOf : Content → PolicyParts → Verdict → Option Change → Type 0
IsChangeOf Vectors policy (Allow perms) change = change ≡ Some (record { keep = 65535 - perms; put = perms })
IsChangeOf Vectors policy (Withhold perms) change = change ≡ Some (record { keep = 65535 - perms; put = 0 })
IsChangeOf (Given labelling.Transition) policy (Transition name) change = PutsKind policy name change
IsChangeOf (Given labelling.Member) policy (Member name) change = PutsKind policy name change
IsChangeOf content policy verdict change = change ≡ None
