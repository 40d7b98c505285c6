-- What each line of a policy text says by itself. A line that is none of these has a syntax fault.
use Rattle.std.specs.Prelude.{ℕ, Bool, true, false, ◌&&◌, List, [], ◌∷◌, Option, Some, None, if◌then◌else◌, codes}
use Rattle.std.specs.List.{list_all}
use Rattle.std.specs.Str.{bytes_eq}
use Rattle.flask_sid.specs.Names.{is_name_form, is_kind_form, is_self}
use Rattle.flask_sid.specs.Contexts.{context_form}
use Rattle.text_lines.specs.OptionSteps.{◌>>=◌}
use Rattle.policy_model.specs.declared.policy.WhoOf.{WhoOf}
use Rattle.policy_model.specs.declared.policy.WhoOf.TheVariants.{Named, Any, Itself}
use Rattle.policy_text.specs.declared.form.Form.{Form}
use Rattle.policy_text.specs.declared.form.Form.TheVariants as form
use Rattle.policy_text.specs.declared.form.Listing.{Listing}
use Rattle.policy_text.specs.declared.form.Listing.TheVariants.{Never, Silent, Loud}
use Rattle.policy_text.specs.declared.form.Decision.{Decision}
use Rattle.policy_text.specs.declared.form.Decision.TheVariants.{Allow, Withhold}
use Rattle.policy_model.specs.declared.policy.Labelling.{Labelling}
use Rattle.policy_model.specs.declared.policy.Labelling.TheVariants.{Transition, Member}
use Rattle.policy_text.specs.declared.form.PatternForm.{PatternForm}
use Rattle.policy_text.specs.declared.form.LabelForm.{LabelForm}

-- the word, where it is alone
unfoldable pub only_word : List (List ℕ) → Option (List ℕ)
only_word (word ∷ []) = Some word
only_word _ = None

-- no more words
abbrev pub is_end : List (List ℕ) → Bool
is_end [] = true
is_end (word ∷ words) = false

-- the word `*`, which stands for all of a kind
abbrev pub is_star : List ℕ → Bool
is_star word = bytes_eq word (codes "*")

-- a source: a type, an attribute, or `*`
unfoldable pub source_of : List ℕ → Option (WhoOf (List ℕ))
source_of word = if is_star word then Some Any else if is_kind_form word then Some (Named word) else None

-- a target: one of these, or `self`
unfoldable pub target_of : List ℕ → Option (WhoOf (List ℕ))
target_of word = if is_self word then Some Itself else source_of word

-- permissions: `*` alone, or one or more names
unfoldable pub are_perms : List (List ℕ) → Bool
are_perms [] = false
are_perms (first ∷ words) = if is_star first then is_end words else is_name_form first && list_all is_name_form words

-- the members of an attribute: one or more types
unfoldable pub are_members : List (List ℕ) → Bool
are_members [] = false
are_members (first ∷ words) = is_kind_form first && list_all is_kind_form words

-- source, target, class and permissions
unfoldable pub pattern_form : List (List ℕ) → Option (PatternForm)
pattern_form (s ∷ t ∷ class ∷ perms) = do
  source ← source_of s
  target ← target_of t
  if is_name_form class && are_perms perms then Some (record { source = source; target = target; class = class; perms = perms }) else None
pattern_form _ = None

-- source, target, class and type
unfoldable pub label_form : List (List ℕ) → Option (LabelForm)
label_form (s ∷ t ∷ class ∷ kinds) = do
  kind ← only_word kinds
  source ← source_of s
  target ← target_of t
  if is_name_form class && is_kind_form kind then Some (record { source = source; target = target; class = class; kind = kind }) else None
label_form _ = None

-- `policy 1`
unfoldable pub header_form : List (List ℕ) → Option Form
header_form words = do
  number ← only_word words
  if bytes_eq number (codes "1") then Some form.Header else None

-- `context USER:ROLE:TYPE`
unfoldable pub context_line_form : List (List ℕ) → Option Form
context_line_form words = do
  word ← only_word words
  context ← context_form word
  Some (form.Context context)

-- `type NAME`
unfoldable pub kind_line_form : List (List ℕ) → Option Form
kind_line_form words = do
  name ← only_word words
  if is_kind_form name then Some (form.Kind name) else None

-- `attribute NAME TYPE ..`
unfoldable pub attribute_form : List (List ℕ) → Option Form
attribute_form [] = None
attribute_form (name ∷ members) = if is_kind_form name && are_members members then Some (form.Attribute name members) else None

-- a line on permissions outside the versions
unfoldable pub listed_form : Listing → List (List ℕ) → Option Form
listed_form listing words = do
  pattern ← pattern_form words
  Some (form.Listed listing pattern)

-- `version`
unfoldable pub version_form : List (List ℕ) → Option Form
version_form [] = Some form.Version
version_form (word ∷ words) = None

-- a line on permissions in a version
unfoldable pub decided_form : Decision → List (List ℕ) → Option Form
decided_form decision words = do
  pattern ← pattern_form words
  Some (form.Decided decision pattern)

-- a line that gives a type
unfoldable pub labelled_form : Labelling → List (List ℕ) → Option Form
labelled_form labelling words = do
  label ← label_form words
  Some (form.Labelled labelling label)

-- a header or a declaration, by its first word
unfoldable pub declaration_form : List ℕ → List (List ℕ) → Option Form
declaration_form first words =
    if bytes_eq first (codes "policy") then header_form words
    else if bytes_eq first (codes "context") then context_line_form words
    else if bytes_eq first (codes "type") then kind_line_form words
    else if bytes_eq first (codes "attribute") then attribute_form words
    else if bytes_eq first (codes "neverallow") then listed_form Never words
    else if bytes_eq first (codes "dontaudit") then listed_form Silent words
    else if bytes_eq first (codes "auditallow") then listed_form Loud words
    else None

-- any line of a policy text, by its first word
unfoldable pub line_form : List ℕ → List (List ℕ) → Option Form
line_form first words =
    if bytes_eq first (codes "allow") then decided_form Allow words
    else if bytes_eq first (codes "withhold") then decided_form Withhold words
    else if bytes_eq first (codes "transition") then labelled_form Transition words
    else if bytes_eq first (codes "member") then labelled_form Member words
    else if bytes_eq first (codes "version") then version_form words
    else declaration_form first words
