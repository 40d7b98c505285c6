-- What the form of a line says of its words.
use Rattle.std.proofs.Common.{◌≡◌, ℕ, Bool, true, false, cond, List, [], ◌∷◌, Option, Some, None, refl, subst}
use Rattle.std.specs.Prelude.{◌&&◌, IfSome, ◌==◌, codes}
use Rattle.std.specs.Str.{bytes_eq}
use Rattle.std.specs.List.{slice_split}
use Rattle.std.proofs.lemmas.Bool.{and_parts}
use Rattle.flask_sid.specs.Names.{is_name_form, is_kind_form}
use Rattle.flask_sid.specs.Contexts.{context_form, context_of_parts}
use Rattle.flask_sid.specs.declared.context.ContextOf.{ContextOf}
use Rattle.text_lines.specs.OptionSteps.{◌>>=◌}
use Rattle.policy_model.specs.declared.policy.WhoOf.TheVariants.{Named, Any}
use Rattle.policy_text.specs.declared.form.Form.{Form}
use Rattle.policy_text.specs.declared.form.Form.TheVariants as form
use Rattle.policy_text.specs.declared.form.Listing.{Listing}
use Rattle.policy_text.specs.declared.form.Listing.TheVariants.{Never, Silent, Loud}
use Rattle.policy_text.specs.declared.form.Decision.{Decision}
use Rattle.policy_text.specs.declared.form.Decision.TheVariants.{Allow, Withhold}
use Rattle.policy_model.specs.declared.policy.Labelling.{Labelling}
use Rattle.policy_model.specs.declared.policy.Labelling.TheVariants.{Transition, Member}
use Rattle.policy_text.specs.declared.form.PatternForm.{PatternForm}
use Rattle.policy_text.specs.declared.form.LabelForm.{LabelForm}
use Rattle.policy_text.specs.Forms.{only_word, is_star, source_of, target_of, are_perms, are_members, pattern_form, label_form, header_form, context_line_form, kind_line_form, attribute_form, listed_form, version_form, decided_form, labelled_form, declaration_form, line_form}
use Rattle.policy_model.specs.Kept.{is_source}

-- the names of a context but for their length
pub record GoodContext (context : ContextOf (List ℕ)) : Type 0 where
  pub user : is_name_form context.user ≡ true
  pub role : is_name_form context.role ≡ true
  pub kind : is_kind_form context.kind ≡ true

-- a source that is one, and some words of permissions
pub record GoodPattern (form : PatternForm) : Type 0 where
  pub source : is_source form.source ≡ true
  pub perms : are_perms form.perms ≡ true

-- a source that is one
pub record GoodLabel (form : LabelForm) : Type 0 where
  pub source : is_source form.source ≡ true

-- what the form of a line says of its words
abbrev pub Good : Form → Type 0
Good form.Header = Unit {0}
Good (form.Context context) = GoodContext context
Good (form.Kind name) = is_kind_form name ≡ true
Good (form.Attribute name members) = (is_kind_form name ≡ true) × (are_members members ≡ true)
Good (form.Listed listing pattern) = GoodPattern pattern
Good form.Version = Unit {0}
Good (form.Decided decision pattern) = GoodPattern pattern
Good (form.Labelled labelling label) = GoodLabel label

-- what holds of a value that was found
pub if_some : {X : Type 0} (o : Option X) (x : X) (P : X → Type 0) → IfSome o P → o ≡ Some x → P x
if_some o x P h is = let h' : IfSome (Some x) P = subst (λ v. IfSome v P) is h in h'

-- what is found where a test passes
pub some_when : {X : Type 0} (b : Bool) (o : Option X) (P : X → Type 0) → (b ≡ true → IfSome o P) → IfSome (cond b o None) P
some_when true o P h = h refl
some_when false o P h = tt

-- what is found by one step and another
pub some_then : {A X : Type 0} (o : Option A) (next : A → Option X) (P : X → Type 0) → ((a : A) → o ≡ Some a → IfSome (next a) P) → IfSome (o >>= next) P
some_then (Some a) next P h = h a refl
some_then None next P h = tt

-- what is found in one of two ways
pub some_either : {X : Type 0} (b : Bool) (o other : Option X) (P : X → Type 0) → IfSome o P → IfSome other P → IfSome (cond b o other) P
some_either true o other P h g = h
some_either false o other P h g = g

-- a source
good_source : (word : List ℕ) → IfSome (source_of word) (λ who. is_source who ≡ true)
unfolding source_of
good_source word =
    some_either (is_star word) (Some Any) (cond (is_kind_form word) (Some (Named word)) None) (λ who. is_source who ≡ true) refl
    (some_when (is_kind_form word) (Some (Named word)) (λ who. is_source who ≡ true) (λ h. refl))

-- a line on permissions
good_pattern : (words : List (List ℕ)) → IfSome (pattern_form words) GoodPattern
unfolding pattern_form
good_pattern [] = tt
good_pattern (s ∷ []) = tt
good_pattern (s ∷ t ∷ []) = tt
good_pattern (s ∷ t ∷ class ∷ perms) =
    some_then (source_of s) _ GoodPattern (λ source is_source_of. some_then (target_of t) _ GoodPattern (λ target is_target_of.
    some_when (is_name_form class && are_perms perms) _ GoodPattern (λ h. record {
      source = if_some (source_of s) source (λ who. is_source who ≡ true) (good_source s) is_source_of;
      perms = (and_parts (is_name_form class) (are_perms perms) h).1;
    })))

-- a line that gives a type
good_label : (words : List (List ℕ)) → IfSome (label_form words) GoodLabel
unfolding label_form
good_label [] = tt
good_label (s ∷ []) = tt
good_label (s ∷ t ∷ []) = tt
good_label (s ∷ t ∷ class ∷ kinds) =
    some_then (only_word kinds) _ GoodLabel (λ kind is_kind_of. some_then (source_of s) _ GoodLabel (λ source is_source_of.
    some_then (target_of t) _ GoodLabel (λ target is_target_of. some_when (is_name_form class && is_kind_form kind) _ GoodLabel (λ h.
    record { source = if_some (source_of s) source (λ who. is_source who ≡ true) (good_source s) is_source_of }))))

-- the parts of a context
good_parts : (parts : List (List ℕ)) → IfSome (context_of_parts parts) GoodContext
unfolding context_of_parts
good_parts [] = tt
good_parts (user ∷ []) = tt
good_parts (user ∷ role ∷ []) = tt
good_parts (user ∷ role ∷ kind ∷ []) =
    some_when (is_name_form user && is_name_form role && is_kind_form kind) _ GoodContext (λ h.
    let both = and_parts (is_name_form user && is_name_form role) (is_kind_form kind) h in
    let names = and_parts (is_name_form user) (is_name_form role) both.0 in
    record { user = names.0; role = names.1; kind = both.1 })
good_parts (user ∷ role ∷ kind ∷ more ∷ parts) = tt

-- a context
good_context : (word : List ℕ) → IfSome (context_form word) GoodContext
unfolding context_form
good_context word = good_parts (slice_split (λ b. b == 58) word)

-- `policy 1`
good_header : (words : List (List ℕ)) → IfSome (header_form words) Good
unfolding header_form
good_header words = some_then (only_word words) _ Good (λ number is. some_when (bytes_eq number (codes "1")) _ Good (λ h. tt))

-- a `context` line
good_context_line : (words : List (List ℕ)) → IfSome (context_line_form words) Good
unfolding context_line_form
good_context_line words =
    some_then (only_word words) _ Good (λ word is. some_then (context_form word) _ Good (λ context found.
    if_some (context_form word) context GoodContext (good_context word) found))

-- a `type` line
good_kind_line : (words : List (List ℕ)) → IfSome (kind_line_form words) Good
unfolding kind_line_form
good_kind_line words = some_then (only_word words) _ Good (λ name is. some_when (is_kind_form name) _ Good (λ h. h))

-- an `attribute` line
good_attribute : (words : List (List ℕ)) → IfSome (attribute_form words) Good
unfolding attribute_form
good_attribute [] = tt
good_attribute (name ∷ members) =
    some_when (is_kind_form name && are_members members) _ Good (λ h. and_parts (is_kind_form name) (are_members members) h)

-- a line on permissions outside the versions
good_listed : (listing : Listing) (words : List (List ℕ)) → IfSome (listed_form listing words) Good
unfolding listed_form
good_listed listing words =
    some_then (pattern_form words) _ Good (λ pattern is. if_some (pattern_form words) pattern GoodPattern (good_pattern words) is)

-- a `version` line
good_version : (words : List (List ℕ)) → IfSome (version_form words) Good
unfolding version_form
good_version [] = tt
good_version (word ∷ words) = tt

-- a line on permissions in a version
good_decided : (decision : Decision) (words : List (List ℕ)) → IfSome (decided_form decision words) Good
unfolding decided_form
good_decided decision words =
    some_then (pattern_form words) _ Good (λ pattern is. if_some (pattern_form words) pattern GoodPattern (good_pattern words) is)

-- a line that gives a type in a version
good_labelled : (labelling : Labelling) (words : List (List ℕ)) → IfSome (labelled_form labelling words) Good
unfolding labelled_form
good_labelled labelling words =
    some_then (label_form words) _ Good (λ label is. if_some (label_form words) label GoodLabel (good_label words) is)

-- the first of the tests that passes
abbrev first_of_tests : List (Bool × Option Form) → Option Form → Option Form
first_of_tests [] other = other
first_of_tests (test ∷ tests) other = cond test.0 test.1 (first_of_tests tests other)

-- each of the forms is good
abbrev AllGood : List (Bool × Option Form) → Type 0
AllGood [] = Unit {0}
AllGood (test ∷ tests) = IfSome (test.1) Good × AllGood tests

-- then so is the one that is taken
good_first : (tests : List (Bool × Option Form)) (other : Option Form) → AllGood tests → IfSome other Good → IfSome (first_of_tests tests other) Good
good_first [] other all last = last
good_first (test ∷ tests) other all last = some_either test.0 test.1 (first_of_tests tests other) Good all.0 (good_first tests other all.1 last)

-- a header or a declaration
good_declaration : (first : List ℕ) (words : List (List ℕ)) → IfSome (declaration_form first words) Good
unfolding declaration_form
good_declaration first words =
    good_first ((bytes_eq first (codes "policy"), header_form words)
    ∷ (bytes_eq first (codes "context"), context_line_form words)
    ∷ (bytes_eq first (codes "type"), kind_line_form words)
    ∷ (bytes_eq first (codes "attribute"), attribute_form words)
    ∷ (bytes_eq first (codes "neverallow"), listed_form Never words)
    ∷ (bytes_eq first (codes "dontaudit"), listed_form Silent words)
    ∷ (bytes_eq first (codes "auditallow"), listed_form Loud words)
    ∷ []) None
    (good_header words, (good_context_line words, (good_kind_line words, (good_attribute words, (good_listed Never words, (good_listed Silent words, (good_listed Loud words, tt))))))) tt

-- any line
pub good_line : (first : List ℕ) (words : List (List ℕ)) → IfSome (line_form first words) Good
unfolding line_form
good_line first words =
    good_first ((bytes_eq first (codes "allow"), decided_form Allow words)
    ∷ (bytes_eq first (codes "withhold"), decided_form Withhold words)
    ∷ (bytes_eq first (codes "transition"), labelled_form Transition words)
    ∷ (bytes_eq first (codes "member"), labelled_form Member words)
    ∷ (bytes_eq first (codes "version"), version_form words)
    ∷ []) (declaration_form first words)
    (good_decided Allow words, (good_decided Withhold words, (good_labelled Transition words, (good_labelled Member words, (good_version words, tt)))))
    (good_declaration first words)
