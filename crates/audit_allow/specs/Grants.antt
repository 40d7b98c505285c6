-- The grants that are learned: what was denied, by types and class, and apart what no version may allow.
use Rattle.std.specs.Prelude.{ℕ, zero, suc, Bool, true, false, not, ◌&&◌, ◌==◌, List, [], ◌∷◌, ◌++◌, length, if◌then◌else◌}
use Rattle.std.specs.List.{flat_map}
use Rattle.access_vectors.specs.declared.class.Class.{Class}
use Rattle.access_vectors.specs.Table.{Permission, classes, perm_count}
use Rattle.policy_model.specs.Deciding.{vector_where}
use Rattle.policy_versions.specs.Places.{kind_at}
use Rattle.audit_allow.specs.declared.grant.Grant.{Grant}
use Rattle.audit_allow.specs.declared.grant.GrantKind.{GrantKind}
use Rattle.audit_allow.specs.declared.grant.GrantKind.TheVariants.{Allow, Refused}
use Rattle.audit_allow.specs.Denials.{Lesson, is_denied, is_forbidden}

-- which list a denied permission belongs to: the refused ones are those that a `neverallow` line matches
abbrev pub belongs_to : GrantKind → Bool → Bool
belongs_to Allow forbidden = not forbidden
belongs_to Refused forbidden = forbidden

-- a permission was denied between two types and belongs to a list
unfoldable pub is_learned : GrantKind → Lesson → List ℕ → List ℕ → Permission → Bool
is_learned list lesson s t perm = is_denied lesson.contexts lesson.asked s t perm && belongs_to list (is_forbidden lesson.policy s t perm)

-- the permissions of a class that were denied between two types and belong to a list
unfoldable pub learned_vector : GrantKind → Lesson → List ℕ → List ℕ → Class → ℕ
learned_vector list lesson s t class = vector_where (perm_count class) (λ index. is_learned list lesson s t (record { class = class; index = index }))

-- a grant of permissions, where there are any
abbrev pub grant_of : ℕ → ℕ → Class → ℕ → List Grant
grant_of s t class perms = if perms == 0 then [] else record { s = s; t = t; class = class; perms = perms } ∷ []

-- the lists for the numbers below n, one behind another
unfoldable pub joined_below : {X : Type 0} → ℕ → (ℕ → List X) → List X
joined_below zero list = []
joined_below (suc n) list = joined_below n list ++ list n

-- the grants of a class between the types at two places
abbrev pub grants_of : GrantKind → Lesson → ℕ → ℕ → Class → List Grant
grants_of list lesson s t class = grant_of s t class (learned_vector list lesson (kind_at lesson.policy s) (kind_at lesson.policy t) class)

-- the grants between the types at two places, by class code
abbrev pub grants_between : GrantKind → Lesson → ℕ → ℕ → List Grant
grants_between list lesson s t = flat_map (grants_of list lesson s t) classes

-- the grants for a source's type, by target
abbrev pub grants_from : GrantKind → Lesson → ℕ → List Grant
grants_from list lesson s = joined_below (length lesson.policy.kinds) (grants_between list lesson s)

-- all grants of a list, by source and target in the order of declaration, then by class code
unfoldable pub grants : GrantKind → Lesson → List Grant
grants list lesson = joined_below (length lesson.policy.kinds) (grants_from list lesson)
