-- Rule lines that are read at first sight.
use Rattle.std.proofs.Common.{◌≡◌, ◌∙◌, ℕ, Bool, true, false, cond, not, List, [], ◌∷◌, ◌++◌, get_or, Option, Some, None, refl, subst}
use Rattle.std.specs.Prelude.{◌||◌, codes, slice_get}
use Rattle.std.specs.List.{All, Contains, list_all, list_any, position, find}
use Rattle.std.specs.Option.{option_map}
use Rattle.std.specs.Str.{bytes_eq}
use Rattle.std.proofs.lemmas.Bool.{and_parts, or_parts}
use Rattle.std.proofs.lemmas.Option.{slice_get_within, get_or_from_slice_get}
use Rattle.std.proofs.lemmas.List.Elements.{All-contains, All-weaker, Contains-get_or}
use Rattle.std.proofs.lemmas.List.Folds.{list_any_at}
use Rattle.std.proofs.lemmas.List.Quantifiers.{position-Some}
use Rattle.std.proofs.lemmas.Slice.Eq.{bytes_eq-Decides}
use Rattle.flask_sid.specs.Names.{is_name_form, is_kind_form, is_self, is_long}
use Rattle.access_vectors.specs.declared.class.Class.{Class}
use Rattle.access_vectors.specs.declared.class.Class.TheVariants.{File, Dir, Process, Port, Security}
use Rattle.access_vectors.specs.Table.{Permission, class_named, class_word, perm_named, perm_words}
use Rattle.access_vectors.specs.Vectors.{with_index}
use Rattle.text_lines.specs.OptionSteps.{◌>>=◌}
use Rattle.policy_model.specs.declared.policy.WhoOf.TheVariants.{Named}
use Rattle.policy_model.specs.declared.policy.KindLine.{KindLine}
use Rattle.policy_model.specs.declared.policy.AttributeLine.{AttributeLine}
use Rattle.policy_model.specs.declared.policy.PolicyParts.{PolicyParts}
use Rattle.policy_model.specs.Declarations.{is_kind, is_attribute}
use Rattle.policy_text.specs.declared.form.Decision.{Decision}
use Rattle.policy_text.specs.declared.form.PatternForm.{PatternForm}
use Rattle.policy_text.specs.Forms.{is_end, is_star, source_of, target_of, are_perms, pattern_form, decided_form}
use Rattle.policy_text.specs.Above.{is_long_pattern}
use Rattle.policy_text.specs.Known.{perms_named, perms_of, pattern_of, deciding_rule}
use Rattle.policy_text.specs.Grammar.{decided_read, below_header, form_read}
use Rattle.policy_text.specs.Plain.{IsPlain, IsRuleRead}
use Rattle.policy_text.proofs.DeclaredLemmas.{kinds_stay, attributes_stay, kinds_snoc, attributes_snoc, known_stays}

-- a name that stands at a place of a list
pub there : (names : List (List ℕ)) (at : ℕ) (kept name : List ℕ) → slice_get names at ≡ Some kept → bytes_eq kept name ≡ true → Contains names name
there names at kept name found same =
    let is : get_or names at [] ≡ name = get_or_from_slice_get names at kept [] found ∙ (bytes_eq-Decides kept name).0 same in
    subst (Contains names) is (Contains-get_or names at [] (slice_get_within names at kept found))

-- nothing is wrong with a plain name
pub plain_in : (policy : PolicyParts) (names : List (List ℕ)) (name : List ℕ) → All (IsPlain policy.kinds policy.attributes) names → Contains names name → IsPlain policy.kinds policy.attributes name
plain_in policy names name all in' = All-contains (IsPlain policy.kinds policy.attributes) names name all in'

-- plain names stay so below one type more
pub plain_kinds : (kinds : List KindLine) (kind : KindLine) (attributes : List AttributeLine) (names : List (List ℕ)) → All (IsPlain kinds attributes) names → All (IsPlain (kinds ++ kind ∷ []) attributes) names
plain_kinds kinds kind attributes names all =
    All-weaker (IsPlain kinds attributes) (IsPlain (kinds ++ kind ∷ []) attributes) (λ name plain. record {
      form = plain.form;
      short = plain.short;
      known = known_stays kinds (kinds ++ kind ∷ []) attributes attributes (kinds_snoc kinds kind) (attributes_stay attributes) (Named name) plain.known;
    }) names all

-- and below one attribute more
pub plain_attributes : (kinds : List KindLine) (attributes : List AttributeLine) (line : AttributeLine) (names : List (List ℕ)) → All (IsPlain kinds attributes) names → All (IsPlain kinds (attributes ++ line ∷ [])) names
plain_attributes kinds attributes line names all =
    All-weaker (IsPlain kinds attributes) (IsPlain kinds (attributes ++ line ∷ [])) (λ name plain. record {
      form = plain.form;
      short = plain.short;
      known = known_stays kinds kinds attributes (attributes ++ line ∷ []) (kinds_stay kinds) (attributes_snoc attributes line) (Named name) plain.known;
    }) names all

or_right : (a b : Bool) → b ≡ true → (a || b) ≡ true
or_right true b h = refl
or_right false b h = h

or_left : (a b : Bool) → a ≡ true → (a || b) ≡ true
or_left true b h = refl
or_left false b h = cc

-- the last of some lines has its name
last_named : {X : Type 0} (name_of : X → List ℕ) (lines : List X) (line : X) (name : List ℕ) → name_of line ≡ name → list_any (λ one. bytes_eq (name_of one) name) (lines ++ line ∷ []) ≡ true
last_named name_of [] line name is = or_left (bytes_eq (name_of line) name) false ((bytes_eq-Decides (name_of line) name).1 is)
last_named name_of (one ∷ lines) line name is = or_right (bytes_eq (name_of one) name) (list_any (λ one. bytes_eq (name_of one) name) (lines ++ line ∷ [])) (last_named name_of lines line name is)

-- a type that was declared last
pub kind_known : (kinds : List KindLine) (kind : KindLine) (attributes : List AttributeLine) → (is_kind (kinds ++ kind ∷ []) kind.name || is_attribute attributes kind.name) ≡ true
unfolding is_kind
kind_known kinds kind attributes =
    or_left (list_any (λ one. bytes_eq one.name kind.name) (kinds ++ kind ∷ [])) (is_attribute attributes kind.name) (last_named (λ (one : KindLine). one.name) kinds kind kind.name refl)

-- an attribute that was declared last
pub attribute_known : (kinds : List KindLine) (attributes : List AttributeLine) (line : AttributeLine) → (is_kind kinds line.name || is_attribute (attributes ++ line ∷ []) line.name) ≡ true
unfolding is_attribute
attribute_known kinds attributes line =
    or_right (is_kind kinds line.name) (list_any (λ one. bytes_eq one.name line.name) (attributes ++ line ∷ [])) (last_named (λ (one : AttributeLine). one.name) attributes line line.name refl)

-- a word that is a name, and is not too long
record IsShortName (word : List ℕ) : Type 0 where
  pub form : is_name_form word ≡ true
  pub short : is_long word ≡ false

-- a name is not `*`
name_no_star : (word : List ℕ) → is_name_form word ≡ true → is_star word ≡ false
unfolding is_name_form
name_no_star word form = by_star (is_star word) refl
  where
    by_star : (b : Bool) → is_star word ≡ b → b ≡ false
    by_star false e = refl
    by_star true e =
        let is : word ≡ codes "*" = (bytes_eq-Decides word (codes "*")).0 e in
        let never : is_name_form (codes "*") ≡ true = rw is at form in
        cc

-- the name of a type is a name, and not `self`
kind_form : (word : List ℕ) → is_kind_form word ≡ true → (is_name_form word ≡ true) × (is_self word ≡ false)
unfolding is_kind_form
kind_form word form =
    let both = and_parts (is_name_form word) (not (is_self word)) form in
    (both.0, by_self (is_self word) both.1)
  where
    by_self : (b : Bool) → not b ≡ true → b ≡ false
    by_self false h = refl
    by_self true h = cc

-- the names of classes
class_short : (class : Class) → IsShortName (class_word class)
unfolding is_name_form is_long
class_short File = record { form = refl; short = refl }
class_short Dir = record { form = refl; short = refl }
class_short Process = record { form = refl; short = refl }
class_short Port = record { form = refl; short = refl }
class_short Security = record { form = refl; short = refl }

-- a word that names a class
named_class : (word : List ℕ) (class : Class) → class_named word ≡ Some class → IsShortName word
unfolding class_named
named_class word class is = among (File ∷ Dir ∷ Process ∷ Port ∷ Security ∷ []) is
  where
    by_first : (one : Class) (found : Option Class) → (found ≡ Some class → IsShortName word) → (b : Bool) → bytes_eq (class_word one) word ≡ b → cond b (Some one) found ≡ Some class → IsShortName word
    by_first one found rest true same e = subst IsShortName ((bytes_eq-Decides (class_word one) word).0 same) (class_short one)
    by_first one found rest false same e = rest e

    among : (classes : List Class) → find (λ one. bytes_eq (class_word one) word) classes ≡ Some class → IsShortName word
    among [] e = cc
    among (one ∷ classes) e = by_first one (find (λ next. bytes_eq (class_word next) word) classes) (among classes) (bytes_eq (class_word one) word) refl e

-- the names of permissions
perms_formed : (class : Class) → list_all is_name_form (perm_words class) ≡ true
unfolding is_name_form
perms_formed File = refl
perms_formed Dir = refl
perms_formed Process = refl
perms_formed Port = refl
perms_formed Security = refl

perms_short : (class : Class) → list_any is_long (perm_words class) ≡ false
unfolding is_long
perms_short File = refl
perms_short Dir = refl
perms_short Process = refl
perms_short Port = refl
perms_short Security = refl

-- a word that is among such words
among_short : (word : List ℕ) (words : List (List ℕ)) → list_all is_name_form words ≡ true → list_any is_long words ≡ false → list_any (λ one. bytes_eq one word) words ≡ true → IsShortName word
among_short word [] forms short there = cc
among_short word (one ∷ words) forms short there =
    by_one (among_short word words) (and_parts (is_name_form one) (list_all is_name_form words) forms) (or_parts (is_long one) (list_any is_long words) short) (bytes_eq one word) refl there
  where
    by_one : (list_all is_name_form words ≡ true → list_any is_long words ≡ false → list_any (λ next. bytes_eq next word) words ≡ true → IsShortName word) → (is_name_form one ≡ true) × (list_all is_name_form words ≡ true) → (is_long one ≡ false) × (list_any is_long words ≡ false) → (b : Bool) → bytes_eq one word ≡ b → (b || list_any (λ next. bytes_eq next word) words) ≡ true → IsShortName word
    by_one rest form short true same e = subst IsShortName ((bytes_eq-Decides one word).0 same) (record { form = form.0; short = short.0 })
    by_one rest form short false same e = rest form.1 short.1 e

-- a word that names a permission
named_perm : (class : Class) (word : List ℕ) (perm : Permission) → perm_named class word ≡ Some perm → IsShortName word
unfolding perm_named
named_perm class word perm is = by_place (position (λ one. bytes_eq one word) (perm_words class)) refl is
  where
    by_place : (o : Option ℕ) → position (λ one. bytes_eq one word) (perm_words class) ≡ o → option_map (λ index. record { class = class; index = index }) o ≡ Some perm → IsShortName word
    by_place None at e = cc
    by_place (Some index) at e =
        let there = position-Some (λ one. bytes_eq one word) (perm_words class) index [] at in
        among_short word (perm_words class) (perms_formed class) (perms_short class) (list_any_at (λ one. bytes_eq one word) (perm_words class) index [] there.0 there.1)

-- words that name permissions
named_all : (class : Class) (words : List (List ℕ)) (set perms : ℕ) → perms_named class set words ≡ Some perms → (list_all is_name_form words ≡ true) × (list_any is_long words ≡ false)
named_all class [] set perms is = (refl, refl)
named_all class (word ∷ words) set perms is = by_name (λ next. named_all class words next perms) (perm_named class word) refl is
  where
    by_name : ((next : ℕ) → perms_named class next words ≡ Some perms → (list_all is_name_form words ≡ true) × (list_any is_long words ≡ false)) → (o : Option Permission) → perm_named class word ≡ o → (o >>= λ perm. perms_named class (with_index set perm.index) words) ≡ Some perms → (list_all is_name_form (word ∷ words) ≡ true) × (list_any is_long (word ∷ words) ≡ false)
    by_name rest None at e = cc
    by_name rest (Some perm) at e =
        let one : IsShortName word = named_perm class word perm at in
        let more = rest (with_index set perm.index) e in
        (rw (one.form, more.0) refl, rw (one.short, more.1) refl)

-- one or more words that name permissions
plain_perms : (class : Class) (words : List (List ℕ)) (perms : ℕ) → perms_named class 0 words ≡ Some perms → is_end words ≡ false → (are_perms words ≡ true) × (perms_of class words ≡ Some perms)
unfolding are_perms perms_of
plain_perms class [] perms is some = cc
plain_perms class (first ∷ words) perms is some =
    let all = named_all class (first ∷ words) 0 perms is in
    let parts = and_parts (is_name_form first) (list_all is_name_form words) all.0 in
    let no_star = name_no_star first parts.0 in
    (rw no_star all.0, rw no_star is)

module _ (n : ℕ) (s t name : List ℕ) (perms : List (List ℕ)) (class : Class) (set : ℕ) (policy : PolicyParts) (source : IsPlain policy.kinds policy.attributes s) (target : IsPlain policy.kinds policy.attributes t) (is_class : class_named name ≡ Some class) (is_set : perms_named class 0 perms ≡ Some set) (some : is_end perms ≡ false) where
  -- the form of the words
  abbrev formed : PatternForm
  formed = record { source = Named s; target = Named t; class = name; perms = perms }

  words_formed : pattern_form (s ∷ t ∷ name ∷ perms) ≡ Some formed
  unfolding pattern_form source_of target_of
  words_formed =
      let from = kind_form s source.form in
      let to = kind_form t target.form in
      let short = named_class name class is_class in
      let all = plain_perms class perms set is_set some in
      rw (name_no_star s from.0, source.form, to.1, name_no_star t to.0, target.form, short.form, all.0) refl

  words_short : is_long_pattern formed ≡ false
  unfolding is_long_pattern
  words_short =
      let short = named_class name class is_class in
      let all = named_all class perms 0 set is_set in
      rw (source.short, target.short, short.short, all.1) refl

  words_known : pattern_of n formed policy ≡ Some (record { line = n; source = Named s; target = Named t; class = class; perms = set })
  unfolding pattern_of
  words_known =
      let all = plain_perms class perms set is_set some in
      rw (source.known, target.known, is_class, all.1) refl

  pub plain_rule_read : (decision : Decision) → IsRuleRead n decision (s ∷ t ∷ name ∷ perms) policy (deciding_rule decision (record { line = n; source = Named s; target = Named t; class = class; perms = set }))
  unfolding decided_form form_read below_header decided_read
  plain_rule_read decision begun room = rw (words_formed, begun, words_short, room, words_known) refl
