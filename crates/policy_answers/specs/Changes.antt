-- Which permissions two versions decide differently.
use Rattle.std.specs.Prelude.{ℕ, Bool, not, List, [], ◌∷◌, if◌then◌else◌}
use Rattle.std.specs.List.{flat_map}
use Rattle.access_vectors.specs.Table.{Permission, perm_count}
use Rattle.access_vectors.specs.Vectors.{has}
use Rattle.audit_allow.specs.Grants.{joined_below}
use Rattle.policy_model.specs.declared.policy.PolicyParts.{PolicyParts}
use Rattle.policy_versions.specs.Places.{kind_at}
use Rattle.policy_answers.specs.Deciders.{decision_on}
use Rattle.policy_answers.specs.Differences.{differences}
use Rattle.policy_answers.specs.declared.changing.Change.{Change}
use Rattle.policy_answers.specs.declared.differing.Difference.{Difference}

-- one of two answers is yes and the other no
abbrev pub is_changed : Bool → Bool → Bool
is_changed before after = if before then not after else after

-- what two versions decide on a permission for the types at two places
abbrev pub change_on : PolicyParts → ℕ → ℕ → ℕ → ℕ → Permission → Change
change_on policy v w s t perm = record {
  s = s;
  t = t;
  before = decision_on policy v (kind_at policy s) (kind_at policy t) perm;
  after = decision_on policy w (kind_at policy s) (kind_at policy t) perm;
}

-- the change of the permission at an index, where two vectors differ there
abbrev pub change_at : PolicyParts → ℕ → ℕ → Difference → ℕ → List Change
change_at policy v w d index =
    if is_changed (has d.before index) (has d.after index)
    then change_on policy v w d.s d.t (record { class = d.class; index = index }) ∷ [] else []

-- the changes where two vectors differ, by permission
abbrev pub changes_of : PolicyParts → ℕ → ℕ → Difference → List Change
changes_of policy v w d = joined_below (perm_count d.class) (change_at policy v w d)

-- all permissions that two versions decide differently, by source and target in the order of declaration, then by class code
-- and permission
unfoldable pub changes : PolicyParts → ℕ → ℕ → List Change
changes policy v w = flat_map (changes_of policy v w) (differences policy v w)
