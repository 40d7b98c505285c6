-- The lines of grants.
use Rattle.std.specs.Prelude.{ℕ, List, ◌∷◌, ◌++◌, codes}
use Rattle.std.specs.List.{flat_map}
use Rattle.access_vectors.specs.Table.{class_word}
use Rattle.text_print.specs.Printed.{ended}
use Rattle.policy_model.specs.declared.policy.PolicyParts.{PolicyParts}
use Rattle.policy_print.specs.Printed.{held_names}
use Rattle.policy_versions.specs.Places.{kind_at}
use Rattle.audit_allow.specs.declared.grant.Grant.{Grant}

-- a line with this first word, then the two types, the class and the names of the permissions
abbrev pub grant_text : PolicyParts → List ℕ → Grant → List ℕ
grant_text policy first grant =
    ended (first ∷ kind_at policy grant.s ∷ kind_at policy grant.t ∷ class_word grant.class ∷ held_names grant.class grant.perms)

-- such a line for each grant
abbrev pub grants_text : PolicyParts → List ℕ → List Grant → List ℕ
grants_text policy first grants = flat_map (grant_text policy first) grants

-- what may be allowed, and then what is refused
abbrev pub learned_text : PolicyParts → List Grant → List Grant → List ℕ
learned_text policy allow refused = grants_text policy (codes "allow") allow ++ grants_text policy (codes "refused") refused
