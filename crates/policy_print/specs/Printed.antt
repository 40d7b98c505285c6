-- The text of a policy: `policy 1`, the declarations, and each version with its rule lines.
use Rattle.std.specs.Prelude.{ℕ, zero, suc, List, [], ◌∷◌, ◌++◌, map, if◌then◌else◌, codes}
use Rattle.std.specs.List.{flat_map}
use Rattle.flask_sid.specs.Contexts.{context_text}
use Rattle.access_vectors.specs.declared.class.Class.{Class}
use Rattle.access_vectors.specs.Table.{perm_count, perm_word, class_word}
use Rattle.access_vectors.specs.Vectors.{has}
use Rattle.text_print.specs.Printed.{ended, text_of}
use Rattle.policy_model.specs.declared.policy.WhoOf.{WhoOf}
use Rattle.policy_model.specs.declared.policy.WhoOf.TheVariants.{Named, Any, Itself}
use Rattle.policy_model.specs.declared.policy.ContextLine.{ContextLine}
use Rattle.policy_model.specs.declared.policy.KindLine.{KindLine}
use Rattle.policy_model.specs.declared.policy.AttributeLine.{AttributeLine}
use Rattle.policy_model.specs.declared.policy.Pattern.{Pattern}
use Rattle.policy_model.specs.declared.policy.Verdict.{Verdict}
use Rattle.policy_model.specs.declared.policy.Verdict.TheVariants.{Allow, Withhold, Transition, Member}
use Rattle.policy_model.specs.declared.policy.RuleLine.{RuleLine}
use Rattle.policy_model.specs.declared.policy.Version.{Version}
use Rattle.policy_model.specs.declared.policy.PolicyParts.{PolicyParts}

-- whom a line speaks of: a name, `*`, or `self`
abbrev pub who_word : WhoOf (List ℕ) → List ℕ
who_word (Named name) = name
who_word Any = codes "*"
who_word Itself = codes "self"

-- the names of a class's permissions below an index that a vector has, in the order of the class
abbrev pub names_below : Class → ℕ → ℕ → List (List ℕ)
names_below class vector zero = []
names_below class vector (suc index) =
    names_below class vector index ++ (if has vector index then perm_word (record { class = class; index = index }) ∷ [] else [])

-- the names of all permissions that a vector of a class has
unfoldable pub held_names : Class → ℕ → List (List ℕ)
held_names class vector = names_below class vector (perm_count class)

-- the first line
abbrev pub header_words : List (List ℕ)
header_words = codes "policy" ∷ codes "1" ∷ []

-- a `type` line
abbrev pub kind_words : KindLine → List (List ℕ)
kind_words kind = codes "type" ∷ kind.name ∷ []

-- a `context` line
abbrev pub context_words : ContextLine → List (List ℕ)
context_words line = codes "context" ∷ context_text line.context ∷ []

-- an `attribute` line
abbrev pub attribute_words : AttributeLine → List (List ℕ)
attribute_words line = codes "attribute" ∷ line.name ∷ line.members

-- a line on permissions outside the versions, with its first word
abbrev pub pattern_words : List ℕ → Pattern → List (List ℕ)
pattern_words first pattern =
    first ∷ who_word pattern.source ∷ who_word pattern.target ∷ class_word pattern.class ∷ held_names pattern.class pattern.perms

-- the first word of a rule line
abbrev pub verdict_word : Verdict → List ℕ
verdict_word (Allow perms) = codes "allow"
verdict_word (Withhold perms) = codes "withhold"
verdict_word (Transition kind) = codes "transition"
verdict_word (Member kind) = codes "member"

-- the words of a rule line behind its class: permissions, or a type
abbrev pub verdict_words : Class → Verdict → List (List ℕ)
verdict_words class (Allow perms) = held_names class perms
verdict_words class (Withhold perms) = held_names class perms
verdict_words class (Transition kind) = kind ∷ []
verdict_words class (Member kind) = kind ∷ []

-- a rule line
abbrev pub rule_words : RuleLine → List (List ℕ)
rule_words rule =
    verdict_word rule.verdict ∷ who_word rule.source ∷ who_word rule.target ∷ class_word rule.class ∷ verdict_words rule.class rule.verdict

-- a `version` line, and the rule lines of the version
abbrev pub version_lines : Version → List (List (List ℕ))
version_lines version = (codes "version" ∷ []) ∷ map rule_words version.rules

-- the lines of a policy: each declared type has a line of its own, also where a context declared it
unfoldable pub policy_lines : PolicyParts → List (List (List ℕ))
policy_lines policy =
    header_words
    ∷ (map kind_words policy.kinds
    ++ (map context_words policy.contexts
    ++ (map attribute_words policy.attributes
    ++ (map (pattern_words (codes "neverallow")) policy.nevers
    ++ (map (pattern_words (codes "dontaudit")) policy.silent
    ++ (map (pattern_words (codes "auditallow")) policy.loud ++ flat_map version_lines policy.versions))))))

-- the text of a list with one line for each member
abbrev pub texts_of : {X : Type 0} → (X → List (List ℕ)) → List X → List ℕ
texts_of words members = flat_map (λ member. ended (words member)) members

-- the text of a policy
unfoldable pub printed : PolicyParts → List ℕ
printed policy = text_of (policy_lines policy)
