-- Names, and whom lines speak of, are words, and are read as what they were.
use Rattle.std.proofs.Common.{◌≡◌, ◌<◌, ℕ, Bool, true, false, not, length, List, [], ◌∷◌, ◌++◌, Some, refl, subst, arith}
use Rattle.std.specs.Prelude.{◌||◌, codes}
use Rattle.std.specs.List.{list_all, list_any}
use Rattle.std.specs.Str.{bytes_eq}
use Rattle.std.proofs.lemmas.Bool.{and_parts, and_from, or_from, not-true, false_from_ne_true}
use Rattle.std.proofs.lemmas.Slice.Eq.{bytes_eq-Decides}
use Rattle.flask_sid.specs.Names.{is_name_form, is_name, is_long, is_self, is_kind_form}
use Rattle.text_print.specs.Printed.{is_word}
use Rattle.text_print.proofs.NameLaws.{name_is_word, form_of_kind}
use Rattle.policy_model.specs.declared.policy.WhoOf.{WhoOf}
use Rattle.policy_model.specs.declared.policy.WhoOf.TheVariants.{Named, Any, Itself}
use Rattle.policy_model.specs.declared.policy.KindLine.{KindLine}
use Rattle.policy_model.specs.declared.policy.AttributeLine.{AttributeLine}
use Rattle.policy_text.specs.Forms.{is_star, source_of, target_of, are_members}
use Rattle.policy_model.specs.Declarations.{is_kind, is_attribute, is_known_who}
use Rattle.policy_text.specs.Above.{is_long_who}
use Rattle.policy_model.specs.Kept.{Grows, is_kind_name, MayKind, MayAttribute, is_source}
use Rattle.policy_print.specs.Printed.{who_word}

-- the name of a type or an attribute has their form
pub kind_form : (name : List ℕ) → is_kind_name name ≡ true → is_kind_form name ≡ true
unfolding is_kind_name
kind_form name h = (and_parts (is_kind_form name) (not (is_long name)) h).0

-- and is not too long
pub kind_short : (name : List ℕ) → is_kind_name name ≡ true → is_long name ≡ false
unfolding is_kind_name
kind_short name h = not-true (is_long name) (and_parts (is_kind_form name) (not (is_long name)) h).1

-- and is a word
pub kind_is_word : (name : List ℕ) → is_kind_name name ≡ true → is_word name ≡ true
kind_is_word name h = name_is_word name (form_of_kind name (kind_form name h))

-- a name is not too long
pub name_short : (name : List ℕ) → is_name name ≡ true → is_long name ≡ false
unfolding is_name
name_short name h = not-true (is_long name) (and_parts (is_name_form name) (not (is_long name)) h).1

-- what holds of each member of a list holds of the name of one of them
named_one : {X : Type 0} (May : List X → X → Type 0) (name_of : X → List ℕ) (P : List ℕ → Type 0) → ((seen : List X) (x : X) → May seen x → P (name_of x)) → (seen xs : List X) → Grows May seen xs → (name : List ℕ) → list_any (λ x. bytes_eq (name_of x) name) xs ≡ true → P name
named_one May name_of P holds seen [] grown name h = cc
named_one May name_of P holds seen (x ∷ xs) grown name h =
    by_first (named_one May name_of P holds (seen ++ x ∷ []) xs grown.1 name) (bytes_eq (name_of x) name) refl h
  where
    by_first : (list_any (λ y. bytes_eq (name_of y) name) xs ≡ true → P name) → (b : Bool) → bytes_eq (name_of x) name ≡ b → (b || list_any (λ y. bytes_eq (name_of y) name) xs) ≡ true → P name
    by_first later true same rest = subst P ((bytes_eq-Decides (name_of x) name).0 same) (holds seen x grown.0)
    by_first later false same rest = later rest

-- a declared type is well named
pub declared_kind : (kinds : List KindLine) → Grows MayKind [] kinds → (name : List ℕ) → is_kind kinds name ≡ true → is_kind_name name ≡ true
unfolding is_kind
declared_kind kinds grown name h =
    named_one MayKind (λ kind. kind.name) (λ n. is_kind_name n ≡ true) (λ seen kind may. may.named) [] kinds grown name h

-- a declared attribute is well named
pub declared_attribute : (kinds : List KindLine) (attributes : List AttributeLine) → Grows (MayAttribute kinds) [] attributes → (name : List ℕ) → is_attribute attributes name ≡ true → is_kind_name name ≡ true
unfolding is_attribute
declared_attribute kinds attributes grown name h =
    named_one (MayAttribute kinds) (λ line. line.name) (λ n. is_kind_name n ≡ true) (λ seen line may. may.named) [] attributes grown name h

-- no name, or a good one
abbrev pub IsWellNamed : WhoOf (List ℕ) → Type 0
IsWellNamed (Named name) = is_kind_name name ≡ true
IsWellNamed Any = Unit {0}
IsWellNamed Itself = Unit {0}

-- whom a line may speak of is well named
pub known_well : (kinds : List KindLine) (attributes : List AttributeLine) → Grows MayKind [] kinds → Grows (MayAttribute kinds) [] attributes → (who : WhoOf (List ℕ)) → is_known_who kinds attributes who ≡ true → IsWellNamed who
known_well kinds attributes k a (Named name) h = either (is_kind kinds name) refl h
  where
    either : (b : Bool) → is_kind kinds name ≡ b → (b || is_attribute attributes name) ≡ true → is_kind_name name ≡ true
    either true known rest = declared_kind kinds k name known
    either false unknown rest = declared_attribute kinds attributes a name rest
known_well kinds attributes k a Any h = tt
known_well kinds attributes k a Itself h = tt

-- a name is not `*`
no_star : (name : List ℕ) → is_name_form name ≡ true → is_star name ≡ false
unfolding is_name_form
no_star name form =
    false_from_ne_true (is_star name) (λ star.
    let same : name ≡ codes "*" = (bytes_eq-Decides name (codes "*")).0 star in
    let never = rw same at form in
    cc)

-- the form of a type's name is not `self`
no_self : (name : List ℕ) → is_kind_form name ≡ true → is_self name ≡ false
unfolding is_kind_form
no_self name h = not-true (is_self name) (and_parts (is_name_form name) (not (is_self name)) h).1

-- a name that was printed as a source is that source
name_as_source : (name : List ℕ) → is_kind_form name ≡ true → source_of name ≡ Some (Named name)
unfolding source_of
name_as_source name form = rw (no_star name (form_of_kind name form), form) refl

-- a printed source is read again
pub source_again : (who : WhoOf (List ℕ)) → is_source who ≡ true → IsWellNamed who → source_of (who_word who) ≡ Some who
unfolding source_of
source_again (Named name) source well = name_as_source name (kind_form name well)
source_again Any source well = refl
source_again Itself source well = cc

-- a printed target is read again
pub target_again : (who : WhoOf (List ℕ)) → IsWellNamed who → target_of (who_word who) ≡ Some who
unfolding target_of source_of is_self
target_again (Named name) well = rw (no_self name (kind_form name well)) (name_as_source name (kind_form name well))
target_again Any well = refl
target_again Itself well = refl

-- whom a line speaks of is a word
pub who_is_word : (who : WhoOf (List ℕ)) → IsWellNamed who → is_word (who_word who) ≡ true
who_is_word (Named name) well = kind_is_word name well
who_is_word Any well = refl
who_is_word Itself well = refl

-- and is not too long
pub who_short : (who : WhoOf (List ℕ)) → IsWellNamed who → is_long_who who ≡ false
who_short (Named name) well = kind_short name well
who_short Any well = refl
who_short Itself well = refl

-- members that are declared are well named
pub members_named : (kinds : List KindLine) → Grows MayKind [] kinds → (names : List (List ℕ)) → list_all (is_kind kinds) names ≡ true → list_all is_kind_name names ≡ true
members_named kinds grown [] h = refl
members_named kinds grown (name ∷ names) h =
    let both = and_parts (is_kind kinds name) (list_all (is_kind kinds) names) h in
    and_from (is_kind_name name) (list_all is_kind_name names) (declared_kind kinds grown name both.0) (members_named kinds grown names both.1)

-- well named members are words
pub members_are_words : (names : List (List ℕ)) → list_all is_kind_name names ≡ true → list_all is_word names ≡ true
members_are_words [] h = refl
members_are_words (name ∷ names) h =
    let both = and_parts (is_kind_name name) (list_all is_kind_name names) h in
    and_from (is_word name) (list_all is_word names) (kind_is_word name both.0) (members_are_words names both.1)

-- they have the form of members
forms_of_members : (names : List (List ℕ)) → list_all is_kind_name names ≡ true → list_all is_kind_form names ≡ true
forms_of_members [] h = refl
forms_of_members (name ∷ names) h =
    let both = and_parts (is_kind_name name) (list_all is_kind_name names) h in
    and_from (is_kind_form name) (list_all is_kind_form names) (kind_form name both.0) (forms_of_members names both.1)

-- and so they are members, where there is one
pub are_members_again : (names : List (List ℕ)) → 0 < length names → list_all is_kind_name names ≡ true → are_members names ≡ true
unfolding are_members
are_members_again [] some h = absurd (omega (arith, some))
are_members_again (name ∷ names) some h = forms_of_members (name ∷ names) h

-- none of them is too long
pub members_short : (names : List (List ℕ)) → list_all is_kind_name names ≡ true → list_any is_long names ≡ false
members_short [] h = refl
members_short (name ∷ names) h =
    let both = and_parts (is_kind_name name) (list_all is_kind_name names) h in
    or_from (is_long name) (list_any is_long names) (kind_short name both.0) (members_short names both.1)
