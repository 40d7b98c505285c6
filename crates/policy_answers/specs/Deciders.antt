-- Which line of a version decides a permission, and which one gives a type.
use Rattle.std.specs.Prelude.{ℕ, List, [], ◌∷◌, Option}
use Rattle.std.specs.Option.{option_map}
use Rattle.access_vectors.specs.declared.class.Class.{Class}
use Rattle.access_vectors.specs.Table.{Permission, perm_count}
use Rattle.access_vectors.specs.Vectors.{has}
use Rattle.audit_allow.specs.Grants.{joined_below}
use Rattle.policy_model.specs.declared.policy.AttributeLine.{AttributeLine}
use Rattle.policy_model.specs.declared.policy.RuleLine.{RuleLine}
use Rattle.policy_model.specs.declared.policy.Labelling.{Labelling}
use Rattle.policy_model.specs.declared.policy.PolicyParts.{PolicyParts}
use Rattle.policy_model.specs.Deciding.{last_said, says_of, gives_kind, rules_at, vector_of}
use Rattle.policy_answers.specs.declared.deciding.Decision.{Decision}

-- the number of a rule line that speaks of a permission, for a source of type s and a target of type t
unfoldable pub speaking_line : List AttributeLine → List ℕ → List ℕ → Permission → RuleLine → Option ℕ
speaking_line attributes s t perm rule = option_map (λ yes. rule.line) (says_of attributes s t perm.class perm.index rule)

-- the number of the line that decides a permission: of the version's rule lines the last that speaks of it
unfoldable pub deciding_line : PolicyParts → ℕ → List ℕ → List ℕ → Permission → Option ℕ
deciding_line policy version s t perm = last_said (speaking_line policy.attributes s t perm) (rules_at policy version)

-- what a version decides on a permission, and by which line
unfoldable pub decision_on : PolicyParts → ℕ → List ℕ → List ℕ → Permission → Decision
decision_on policy version s t perm = record {
  perm = perm;
  yes = has (vector_of policy version s t perm.class) perm.index;
  line = deciding_line policy version s t perm;
}

-- what a version decides on the permission at an index of a class
abbrev pub decision_at : PolicyParts → ℕ → List ℕ → List ℕ → Class → ℕ → List Decision
decision_at policy version s t class index = decision_on policy version s t (record { class = class; index = index }) ∷ []

-- what a version decides on each permission of a class, in the order of the class
unfoldable pub decisions : PolicyParts → ℕ → List ℕ → List ℕ → Class → List Decision
decisions policy version s t class = joined_below (perm_count class) (decision_at policy version s t class)

-- the number of a rule line that gives a type
unfoldable pub giving_line : Labelling → List AttributeLine → List ℕ → List ℕ → Class → RuleLine → Option ℕ
giving_line labelling attributes s t class rule = option_map (λ kind. rule.line) (gives_kind labelling attributes s t class rule)

-- the number of the line by which a version gives a type: of the version's rule lines the last that gives one
unfoldable pub labelling_line : Labelling → PolicyParts → ℕ → List ℕ → List ℕ → Class → Option ℕ
labelling_line labelling policy version s t class = last_said (giving_line labelling policy.attributes s t class) (rules_at policy version)
