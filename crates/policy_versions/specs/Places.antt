-- The declared types by their places.
use Rattle.std.specs.Prelude.{ℕ, List, [], slice_index_or}
use Rattle.policy_model.specs.declared.policy.KindLine.{KindLine}
use Rattle.policy_model.specs.declared.policy.PolicyParts.{PolicyParts}

-- the name of the type at a place in a list of declarations
abbrev pub name_at : List KindLine → ℕ → List ℕ
name_at kinds place = (slice_index_or kinds place (record { line = 0; name = [] })).name

-- the name of the declared type at a place
abbrev pub kind_at : PolicyParts → ℕ → List ℕ
kind_at policy place = name_at policy.kinds place
