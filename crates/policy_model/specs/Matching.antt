-- Which questions a line matches.
use Rattle.std.specs.Prelude.{ℕ, Bool, true, false, ◌&&◌, ◌||◌, ◌==◌, List}
use Rattle.std.specs.List.{list_any}
use Rattle.std.specs.Str.{bytes_eq}
use Rattle.access_vectors.specs.declared.class.Class.{Class}
use Rattle.access_vectors.specs.Table.{Permission, code_of}
use Rattle.access_vectors.specs.Vectors.{has}
use Rattle.policy_model.specs.declared.policy.WhoOf.{WhoOf}
use Rattle.policy_model.specs.declared.policy.WhoOf.TheVariants.{Named, Any, Itself}
use Rattle.policy_model.specs.declared.policy.AttributeLine.{AttributeLine}
use Rattle.policy_model.specs.declared.policy.Pattern.{Pattern}
use Rattle.policy_model.specs.declared.policy.RuleLine.{RuleLine}

-- a type is in the attribute of that name
unfoldable pub is_in : List AttributeLine → List ℕ → List ℕ → Bool
is_in attributes name kind =
    list_any (λ attribute. bytes_eq attribute.name name && list_any (λ member. bytes_eq member kind) attribute.members) attributes

-- a name means a type: it is the type's own, or that of an attribute which has the type
abbrev pub means : List AttributeLine → List ℕ → List ℕ → Bool
means attributes name kind = bytes_eq name kind || is_in attributes name kind

-- a line's source matches a source of type s: the types that it names, or any
unfoldable pub matches_source : List AttributeLine → WhoOf (List ℕ) → List ℕ → Bool
matches_source attributes (Named name) s = means attributes name s
matches_source attributes Any s = true
matches_source attributes Itself s = false

-- a line's target matches a target of type t: the types that it names, any, or for `self` the source's type alone
unfoldable pub matches_target : List AttributeLine → WhoOf (List ℕ) → List ℕ → List ℕ → Bool
matches_target attributes (Named name) s t = means attributes name t
matches_target attributes Any s t = true
matches_target attributes Itself s t = bytes_eq s t

-- the class of a line is that of a question
abbrev pub is_same_class : Class → Class → Bool
is_same_class line class = code_of line == code_of class

-- a rule line matches a source type, a target type and a class
unfoldable pub matches : List AttributeLine → RuleLine → List ℕ → List ℕ → Class → Bool
matches attributes rule s t class =
    matches_source attributes rule.source s && matches_target attributes rule.target s t && is_same_class rule.class class

-- a line on permissions matches a source type, a target type and a permission
unfoldable pub matches_permission : List AttributeLine → Pattern → List ℕ → List ℕ → Permission → Bool
matches_permission attributes pattern s t perm =
    matches_source attributes pattern.source s && matches_target attributes pattern.target s t
    && is_same_class pattern.class perm.class && has pattern.perms perm.index
