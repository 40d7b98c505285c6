-- What each printed line says by itself.
use Rattle.std.proofs.Common.{◌≡◌, ◌<◌, ℕ, true, length, List, [], ◌∷◌, Some, refl}
use Rattle.std.specs.Prelude.{codes}
use Rattle.std.specs.List.{list_all}
use Rattle.std.proofs.lemmas.Bool.{and_from}
use Rattle.flask_sid.specs.Names.{is_name}
use Rattle.flask_sid.specs.Contexts.{context_text}
use Rattle.access_vectors.specs.Table.{class_word}
use Rattle.access_vectors.specs.declared.class.Class.{Class}
use Rattle.text_print.specs.Printed.{is_word}
use Rattle.text_print.proofs.NameLaws.{form_of_name, context_form_text, context_is_word}
use Rattle.policy_model.specs.declared.policy.WhoOf.{WhoOf}
use Rattle.policy_model.specs.declared.policy.ContextLine.{ContextLine}
use Rattle.policy_model.specs.declared.policy.KindLine.{KindLine}
use Rattle.policy_model.specs.declared.policy.AttributeLine.{AttributeLine}
use Rattle.policy_model.specs.declared.policy.Pattern.{Pattern}
use Rattle.policy_model.specs.declared.policy.RuleLine.{RuleLine}
use Rattle.policy_text.specs.declared.form.Form.{Form}
use Rattle.policy_text.specs.declared.form.Form.TheVariants as form
use Rattle.policy_text.specs.declared.form.Listing.{Listing}
use Rattle.policy_text.specs.declared.form.Listing.TheVariants.{Never, Silent, Loud}
use Rattle.policy_text.specs.declared.form.Decision.TheVariants as decision
use Rattle.policy_model.specs.declared.policy.Labelling.TheVariants as labelling
use Rattle.policy_text.specs.declared.form.PatternForm.{PatternForm}
use Rattle.policy_text.specs.declared.form.LabelForm.{LabelForm}
use Rattle.policy_text.specs.Forms.{only_word, pattern_form, label_form, header_form, context_line_form, kind_line_form, attribute_form, listed_form, version_form, decided_form, labelled_form, declaration_form, line_form}
use Rattle.policy_model.specs.Kept.{is_kind_name, is_source, IsPerms}
use Rattle.policy_print.specs.Printed.{who_word, held_names}
use Rattle.policy_print.proofs.FieldLaws.{kind_form, kind_is_word, IsWellNamed, source_again, target_again, who_is_word, members_are_words, are_members_again}
use Rattle.policy_print.proofs.PermLaws.{class_reads, perms_read}

-- the words of a line, and what it says
pub record Says (first : List ℕ) (words : List (List ℕ)) (said : Form) : Type 0 where
  pub words_are : list_all is_word (first ∷ words) ≡ true
  pub says : line_form first words ≡ Some said

-- `policy 1`
pub header_says : Says (codes "policy") (codes "1" ∷ []) form.Header
unfolding line_form declaration_form header_form only_word
header_says = record { words_are = refl; says = refl }

-- a `type` line
pub kind_says : (kind : KindLine) → is_kind_name kind.name ≡ true → Says (codes "type") (kind.name ∷ []) (form.Kind kind.name)
unfolding line_form declaration_form kind_line_form only_word
kind_says kind named =
    record {
      words_are = and_from (is_word kind.name) true (kind_is_word kind.name named) refl;
      says = rw (kind_form kind.name named) refl;
    }

-- a `context` line
pub context_says : (line : ContextLine) → is_name line.context.user ≡ true → is_name line.context.role ≡ true → is_kind_name line.context.kind ≡ true → Says (codes "context") (context_text line.context ∷ []) (form.Context line.context)
unfolding line_form declaration_form context_line_form only_word
context_says line user role kind =
    let u = form_of_name line.context.user user in
    let r = form_of_name line.context.role role in
    let k = kind_form line.context.kind kind in
    record {
      words_are = and_from (is_word (context_text line.context)) true (context_is_word line.context u r k) refl;
      says = rw (context_form_text line.context u r k) refl;
    }

-- an `attribute` line
pub attribute_says : (line : AttributeLine) → is_kind_name line.name ≡ true → 0 < length line.members → list_all is_kind_name line.members ≡ true → Says (codes "attribute") (line.name ∷ line.members) (form.Attribute line.name line.members)
unfolding line_form declaration_form attribute_form
attribute_says line named some members =
    record {
      words_are = and_from (is_word line.name) (list_all is_word line.members) (kind_is_word line.name named) (members_are_words line.members members);
      says = rw (kind_form line.name named, are_members_again line.members some members) refl;
    }

-- source and target of a line that are well named
pub record WhosAre (source target : WhoOf (List ℕ)) : Type 0 where
  pub source_is : is_source source ≡ true
  pub source_well : IsWellNamed source
  pub target_well : IsWellNamed target

-- the form of a line on permissions
abbrev pub form_on : WhoOf (List ℕ) → WhoOf (List ℕ) → Class → ℕ → PatternForm
form_on source target class perms = record { source = source; target = target; class = class_word class; perms = held_names class perms }

-- the words of a line on permissions
abbrev words_on : WhoOf (List ℕ) → WhoOf (List ℕ) → Class → ℕ → List (List ℕ)
words_on source target class perms = who_word source ∷ who_word target ∷ class_word class ∷ held_names class perms

-- a printed line on permissions is read again
pattern_again : (source target : WhoOf (List ℕ)) (class : Class) (perms : ℕ) → WhosAre source target → IsPerms class perms → pattern_form (words_on source target class perms) ≡ Some (form_on source target class perms)
unfolding pattern_form
pattern_again source target class perms whos are =
    rw (source_again source whos.source_is whos.source_well, target_again target whos.target_well, (class_reads class).form, (perms_read class perms are).perms) refl

-- the words of a line behind its first
words_of_line : (source target : WhoOf (List ℕ)) (class : Class) (rest : List (List ℕ)) → WhosAre source target → list_all is_word rest ≡ true → list_all is_word (who_word source ∷ who_word target ∷ class_word class ∷ rest) ≡ true
words_of_line source target class rest whos all =
    and_from (is_word (who_word source)) (list_all is_word (who_word target ∷ class_word class ∷ rest)) (who_is_word source whos.source_well)
    (and_from (is_word (who_word target)) (list_all is_word (class_word class ∷ rest)) (who_is_word target whos.target_well)
    (and_from (is_word (class_word class)) (list_all is_word rest) (class_reads class).word all))

-- the first word of a line on permissions outside the versions
abbrev pub listing_word : Listing → List ℕ
listing_word Never = codes "neverallow"
listing_word Silent = codes "dontaudit"
listing_word Loud = codes "auditallow"

-- a line on permissions outside the versions
pub listed_says : (listing : Listing) (pattern : Pattern) → WhosAre pattern.source pattern.target → IsPerms pattern.class pattern.perms → Says (listing_word listing) (words_on pattern.source pattern.target pattern.class pattern.perms) (form.Listed listing (form_on pattern.source pattern.target pattern.class pattern.perms))
unfolding line_form declaration_form listed_form
listed_says listing pattern whos are =
    let words = words_of_line pattern.source pattern.target pattern.class (held_names pattern.class pattern.perms) whos (perms_read pattern.class pattern.perms are).words in
    let again = pattern_again pattern.source pattern.target pattern.class pattern.perms whos are in
    by_listing listing words again
  where
    by_listing : (one : Listing) → list_all is_word (words_on pattern.source pattern.target pattern.class pattern.perms) ≡ true → pattern_form (words_on pattern.source pattern.target pattern.class pattern.perms) ≡ Some (form_on pattern.source pattern.target pattern.class pattern.perms) → Says (listing_word one) (words_on pattern.source pattern.target pattern.class pattern.perms) (form.Listed one (form_on pattern.source pattern.target pattern.class pattern.perms))
    by_listing Never words again = record { words_are = words; says = rw again refl }
    by_listing Silent words again = record { words_are = words; says = rw again refl }
    by_listing Loud words again = record { words_are = words; says = rw again refl }

-- a `version` line
pub version_says : Says (codes "version") [] form.Version
unfolding line_form version_form
version_says = record { words_are = refl; says = refl }

-- the form of a line that gives a type
abbrev pub form_giving : WhoOf (List ℕ) → WhoOf (List ℕ) → Class → List ℕ → LabelForm
form_giving source target class kind = record { source = source; target = target; class = class_word class; kind = kind }

-- the words of a line that gives a type
abbrev words_giving : WhoOf (List ℕ) → WhoOf (List ℕ) → Class → List ℕ → List (List ℕ)
words_giving source target class kind = who_word source ∷ who_word target ∷ class_word class ∷ kind ∷ []

-- a printed line that gives a type is read again
label_again : (source target : WhoOf (List ℕ)) (class : Class) (kind : List ℕ) → WhosAre source target → is_kind_name kind ≡ true → label_form (words_giving source target class kind) ≡ Some (form_giving source target class kind)
unfolding label_form only_word
label_again source target class kind whos named =
    rw (source_again source whos.source_is whos.source_well, target_again target whos.target_well, (class_reads class).form, kind_form kind named) refl

-- an `allow` line
pub allow_says : (rule : RuleLine) (perms : ℕ) → WhosAre rule.source rule.target → IsPerms rule.class perms → Says (codes "allow") (words_on rule.source rule.target rule.class perms) (form.Decided decision.Allow (form_on rule.source rule.target rule.class perms))
unfolding line_form decided_form
allow_says rule perms whos are =
    record {
      words_are = words_of_line rule.source rule.target rule.class (held_names rule.class perms) whos (perms_read rule.class perms are).words;
      says = rw (pattern_again rule.source rule.target rule.class perms whos are) refl;
    }

-- a `withhold` line
pub withhold_says : (rule : RuleLine) (perms : ℕ) → WhosAre rule.source rule.target → IsPerms rule.class perms → Says (codes "withhold") (words_on rule.source rule.target rule.class perms) (form.Decided decision.Withhold (form_on rule.source rule.target rule.class perms))
unfolding line_form decided_form
withhold_says rule perms whos are =
    record {
      words_are = words_of_line rule.source rule.target rule.class (held_names rule.class perms) whos (perms_read rule.class perms are).words;
      says = rw (pattern_again rule.source rule.target rule.class perms whos are) refl;
    }

-- a `transition` line
pub transition_says : (rule : RuleLine) (kind : List ℕ) → WhosAre rule.source rule.target → is_kind_name kind ≡ true → Says (codes "transition") (words_giving rule.source rule.target rule.class kind) (form.Labelled labelling.Transition (form_giving rule.source rule.target rule.class kind))
unfolding line_form labelled_form
transition_says rule kind whos named =
    record {
      words_are = words_of_line rule.source rule.target rule.class (kind ∷ []) whos (and_from (is_word kind) true (kind_is_word kind named) refl);
      says = rw (label_again rule.source rule.target rule.class kind whos named) refl;
    }

-- a `member` line
pub member_says : (rule : RuleLine) (kind : List ℕ) → WhosAre rule.source rule.target → is_kind_name kind ≡ true → Says (codes "member") (words_giving rule.source rule.target rule.class kind) (form.Labelled labelling.Member (form_giving rule.source rule.target rule.class kind))
unfolding line_form labelled_form
member_says rule kind whos named =
    record {
      words_are = words_of_line rule.source rule.target rule.class (kind ∷ []) whos (and_from (is_word kind) true (kind_is_word kind named) refl);
      says = rw (label_again rule.source rule.target rule.class kind whos named) refl;
    }
