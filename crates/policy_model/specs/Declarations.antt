-- What a policy declares, and how much there may be of it.
use Rattle.std.specs.Prelude.{ℕ, ◌+◌, Bool, true, ◌&&◌, ◌||◌, List, [], length, Option, Some, None}
use Rattle.std.specs.List.{list_any}
use Rattle.std.specs.Str.{bytes_eq}
use Rattle.flask_sid.specs.declared.context.ContextOf.{ContextOf}
use Rattle.policy_model.specs.declared.policy.WhoOf.{WhoOf}
use Rattle.policy_model.specs.declared.policy.WhoOf.TheVariants.{Named, Any, Itself}
use Rattle.policy_model.specs.declared.policy.ContextLine.{ContextLine}
use Rattle.policy_model.specs.declared.policy.KindLine.{KindLine}
use Rattle.policy_model.specs.declared.policy.AttributeLine.{AttributeLine}
use Rattle.policy_model.specs.declared.policy.Version.{Version}
use Rattle.policy_model.specs.declared.policy.RuleLine.{RuleLine}
use Rattle.policy_model.specs.declared.policy.PolicyParts.{PolicyParts}

-- how many there may be: contexts, types, attributes, lines on permissions outside the versions, versions, and rule
-- lines of a version
abbrev pub context_limit : ℕ
context_limit = 4095

abbrev pub kind_limit : ℕ
kind_limit = 128

abbrev pub attribute_limit : ℕ
attribute_limit = 64

abbrev pub listed_limit : ℕ
listed_limit = 1024

abbrev pub version_limit : ℕ
version_limit = 64

abbrev pub rule_limit : ℕ
rule_limit = 1024

-- a declared type
unfoldable pub is_kind : List KindLine → List ℕ → Bool
is_kind kinds name = list_any (λ kind. bytes_eq kind.name name) kinds

-- a declared attribute
unfoldable pub is_attribute : List AttributeLine → List ℕ → Bool
is_attribute attributes name = list_any (λ attribute. bytes_eq attribute.name name) attributes

-- two contexts of the same names
abbrev pub same_context : ContextOf (List ℕ) → ContextOf (List ℕ) → Bool
same_context a b = bytes_eq a.user b.user && bytes_eq a.role b.role && bytes_eq a.kind b.kind

-- a declared context
unfoldable pub has_context : List ContextLine → ContextOf (List ℕ) → Bool
has_context contexts context = list_any (λ line. same_context line.context context) contexts

-- no name, or that of a declared type or attribute
abbrev pub is_known_who : List KindLine → List AttributeLine → WhoOf (List ℕ) → Bool
is_known_who kinds attributes (Named name) = is_kind kinds name || is_attribute attributes name
is_known_who kinds attributes Any = true
is_known_who kinds attributes Itself = true

-- how many lines on permissions stand outside the versions
abbrev pub listed_count : PolicyParts → ℕ
listed_count policy = length policy.nevers + length policy.silent + length policy.loud

-- the rule lines of a version, and none where there is no such version
abbrev pub rules_of : Option Version → List RuleLine
rules_of None = []
rules_of (Some version) = version.rules
