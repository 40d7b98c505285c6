-- What stays declared as lists grow, and what the names in a line stand for.
use Rattle.std.proofs.Common.{◌≡◌, ◌<◌, ◌^◌, ℕ, Bool, true, false, cond, List, [], ◌∷◌, ◌++◌, length, Option, Some, None, refl, ap, arith, lit<}
use Rattle.std.specs.Prelude.{◌&&◌, ◌||◌, IfSome, unwrap_or}
use Rattle.std.specs.List.{position}
use Rattle.std.specs.Option.{option_map}
use Rattle.std.specs.Str.{bytes_eq}
use Rattle.std.proofs.lemmas.Bool.{and_parts}
use Rattle.std.proofs.lemmas.Nat.{or_lt, le_or_r, pow_pos}
use Rattle.std.proofs.lemmas.List.Quantifiers.{position-Some}
use Rattle.std.proofs.Math.Pow.{pow-lt}
use Rattle.access_vectors.specs.declared.class.Class.{Class}
use Rattle.access_vectors.specs.declared.class.Class.TheVariants.{File, Dir, Process, Port, Security}
use Rattle.access_vectors.specs.Table.{Permission, class_named, perm_named, perm_words, perm_count}
use Rattle.access_vectors.specs.Vectors.{with_index}
use Rattle.text_lines.specs.OptionSteps.{◌>>=◌}
use Rattle.policy_model.specs.declared.policy.WhoOf.{WhoOf}
use Rattle.policy_model.specs.declared.policy.WhoOf.TheVariants.{Named, Any, Itself}
use Rattle.policy_model.specs.declared.policy.KindLine.{KindLine}
use Rattle.policy_model.specs.declared.policy.AttributeLine.{AttributeLine}
use Rattle.policy_model.specs.declared.policy.Pattern.{Pattern}
use Rattle.policy_model.specs.declared.policy.PolicyParts.{PolicyParts}
use Rattle.policy_text.specs.declared.form.Decision.{Decision}
use Rattle.policy_text.specs.declared.form.Decision.TheVariants.{Allow, Withhold}
use Rattle.policy_model.specs.declared.policy.Labelling.{Labelling}
use Rattle.policy_model.specs.declared.policy.Labelling.TheVariants.{Transition, Member}
use Rattle.policy_text.specs.declared.form.PatternForm.{PatternForm}
use Rattle.policy_text.specs.declared.form.LabelForm.{LabelForm}
use Rattle.policy_text.specs.Forms.{is_star, are_perms}
use Rattle.policy_model.specs.Declarations.{is_kind, is_attribute, is_known_who}
use Rattle.policy_text.specs.Known.{whole_row, perms_named, perms_of, pattern_of, deciding_rule, labelling_rule, labelled}
use Rattle.policy_model.specs.Kept.{IsPerms, MayPattern, MayVerdict, IsRule}
use Rattle.policy_model.proofs.GrowsLemmas.{any_append}
use Rattle.policy_text.proofs.FormLemmas.{GoodPattern, GoodLabel, some_when, some_then}

-- every type that is declared here is declared there
pub record KindsStay (here there : List KindLine) : Type 0 where
  pub stay : (name : List ℕ) → is_kind here name ≡ true → is_kind there name ≡ true

-- every attribute that is declared here is declared there
pub record AttributesStay (here there : List AttributeLine) : Type 0 where
  pub stay : (name : List ℕ) → is_attribute here name ≡ true → is_attribute there name ≡ true

pub kinds_stay : (kinds : List KindLine) → KindsStay kinds kinds
kinds_stay kinds = record { stay = λ name h. h }

pub attributes_stay : (attributes : List AttributeLine) → AttributesStay attributes attributes
attributes_stay attributes = record { stay = λ name h. h }

pub kinds_snoc : (kinds : List KindLine) (kind : KindLine) → KindsStay kinds (kinds ++ kind ∷ [])
unfolding is_kind
kinds_snoc kinds kind = record { stay = λ name h. any_append (λ one. bytes_eq one.name name) kinds (kind ∷ []) h }

pub attributes_snoc : (attributes : List AttributeLine) (line : AttributeLine) → AttributesStay attributes (attributes ++ line ∷ [])
unfolding is_attribute
attributes_snoc attributes line = record { stay = λ name h. any_append (λ one. bytes_eq one.name name) attributes (line ∷ []) h }

-- either of two tests that stay true
or_more : (a b a' b' : Bool) → (a ≡ true → a' ≡ true) → (b ≡ true → b' ≡ true) → (a || b) ≡ true → (a' || b') ≡ true
or_more true b a' b' f g h = ap (λ x. x || b') (f refl)
or_more false b true b' f g h = refl
or_more false b false b' f g h = g h

-- whom a line speaks of stays declared
pub known_stays : (kinds kinds' : List KindLine) (attributes attributes' : List AttributeLine) → KindsStay kinds kinds' → AttributesStay attributes attributes' → (who : WhoOf (List ℕ)) → is_known_who kinds attributes who ≡ true → is_known_who kinds' attributes' who ≡ true
known_stays kinds kinds' attributes attributes' k a (Named name) h =
    or_more (is_kind kinds name) (is_attribute attributes name) _ _ (k.stay name) (a.stay name) h
known_stays kinds kinds' attributes attributes' k a Any h = refl
known_stays kinds kinds' attributes attributes' k a Itself h = refl

-- a permission of a class by its name
pub perm_within : (class : Class) (name : List ℕ) (perm : Permission) → perm_named class name ≡ Some perm → perm.index < length (perm_words class)
unfolding perm_named
perm_within class name perm h = by_place (position (λ word. bytes_eq word name) (perm_words class)) refl h
  where
    by_place : (o : Option ℕ) → position (λ word. bytes_eq word name) (perm_words class) ≡ o → option_map (λ index. record { class = class; index = index }) o ≡ Some perm → perm.index < length (perm_words class)
    by_place None at e = cc
    by_place (Some index) at e =
        let same : index ≡ perm.index = ap (λ (p : Option Permission). elim p [ Some q ↦ q.index | None ↦ index ]) e in
        rw (← same) (position-Some (λ word. bytes_eq word name) (perm_words class) index [] at).0

-- the row of a class has as many names as it has permissions
row_length : (class : Class) → length (perm_words class) ≡ perm_count class
row_length File = refl
row_length Dir = refl
row_length Process = refl
row_length Port = refl
row_length Security = refl

-- one permission more
more_perms : (n bits index : ℕ) → bits < 2 ^ n → index < n → (0 < with_index bits index) × (with_index bits index < 2 ^ n)
unfolding with_index
more_perms n bits index small within =
    let one : 2 ^ index < 2 ^ n = pow-lt {j = n} within in
    (omega (arith, le_or_r bits (2 ^ index), pow_pos index), or_lt n bits (2 ^ index) small one)

-- named permissions, after some that are there already
named_perms : (class : Class) (names : List (List ℕ)) (bits perms : ℕ) → 0 < bits → bits < 2 ^ perm_count class → perms_named class bits names ≡ Some perms → IsPerms class perms
named_perms class [] bits perms some within is =
    let same : bits ≡ perms = ap (λ (p : Option ℕ). unwrap_or p 0) is in
    record { some = rw (← same) some; within = rw (← same) within }
named_perms class (name ∷ names) bits perms some within is =
    by_name (λ more. named_perms class names more perms) (perm_named class name) refl is
  where
    by_name : ((more : ℕ) → 0 < more → more < 2 ^ perm_count class → perms_named class more names ≡ Some perms → IsPerms class perms) → (o : Option Permission) → perm_named class name ≡ o → (o >>= λ perm. perms_named class (with_index bits perm.index) names) ≡ Some perms → IsPerms class perms
    by_name next None at e = cc
    by_name next (Some perm) at e =
        let place : perm.index < perm_count class = rw (← row_length class) (perm_within class name perm at) in
        let more = more_perms (perm_count class) bits perm.index within place in
        next (with_index bits perm.index) more.0 more.1 e

-- named permissions, of which there is at least one
first_perms : (class : Class) (name : List ℕ) (names : List (List ℕ)) (perms : ℕ) → perms_named class 0 (name ∷ names) ≡ Some perms → IsPerms class perms
first_perms class name names perms is = by_name (perm_named class name) refl is
  where
    by_name : (o : Option Permission) → perm_named class name ≡ o → (o >>= λ perm. perms_named class (with_index 0 perm.index) names) ≡ Some perms → IsPerms class perms
    by_name None at e = cc
    by_name (Some perm) at e =
        let place : perm.index < perm_count class = rw (← row_length class) (perm_within class name perm at) in
        let more = more_perms (perm_count class) 0 perm.index (pow_pos (perm_count class)) place in
        named_perms class names (with_index 0 perm.index) perms more.0 more.1 e

-- all permissions of a class
whole_perms : (class : Class) → IsPerms class (whole_row class)
unfolding whole_row
whole_perms File = record { some = lit< tt; within = lit< tt }
whole_perms Dir = record { some = lit< tt; within = lit< tt }
whole_perms Process = record { some = lit< tt; within = lit< tt }
whole_perms Port = record { some = lit< tt; within = lit< tt }
whole_perms Security = record { some = lit< tt; within = lit< tt }

-- the permissions that words name
good_perms : (class : Class) (words : List (List ℕ)) (perms : ℕ) → are_perms words ≡ true → perms_of class words ≡ Some perms → IsPerms class perms
unfolding are_perms perms_of
good_perms class [] perms good is = cc
good_perms class (first ∷ names) perms good is = by_star (is_star first) is
  where
    by_star : (b : Bool) → cond b (Some (whole_row class)) (perms_named class 0 (first ∷ names)) ≡ Some perms → IsPerms class perms
    by_star true e =
        let same : whole_row class ≡ perms = ap (λ (p : Option ℕ). unwrap_or p 0) e in
        rw (← same) (whole_perms class)
    by_star false e = first_perms class first names perms e

-- a line on permissions that is known
pub known_pattern : (n : ℕ) (form : PatternForm) (policy : PolicyParts) → GoodPattern form → IfSome (pattern_of n form policy) (MayPattern policy.kinds policy.attributes)
unfolding pattern_of
known_pattern n form policy good =
    some_when (is_known_who policy.kinds policy.attributes form.source && is_known_who policy.kinds policy.attributes form.target) _ (MayPattern policy.kinds policy.attributes) (λ known.
    let both = and_parts (is_known_who policy.kinds policy.attributes form.source) (is_known_who policy.kinds policy.attributes form.target) known in
    some_then (class_named form.class) _ (MayPattern policy.kinds policy.attributes) (λ class is_class.
    some_then (perms_of class form.perms) _ (MayPattern policy.kinds policy.attributes) (λ perms are_of.
    record { source = good.source; source_known = both.0; target_known = both.1; perms = good_perms class form.perms perms good.perms are_of })))

-- the rule line of a line on permissions
pub good_deciding : (kinds : List KindLine) (attributes : List AttributeLine) (decision : Decision) (pattern : Pattern) → MayPattern kinds attributes pattern → IsRule kinds attributes (deciding_rule decision pattern)
good_deciding kinds attributes Allow pattern may =
    record { source = may.source; source_known = may.source_known; target_known = may.target_known; verdict = may.perms }
good_deciding kinds attributes Withhold pattern may =
    record { source = may.source; source_known = may.source_known; target_known = may.target_known; verdict = may.perms }

-- a line that gives a type, and is known
pub known_label : (n : ℕ) (labelling : Labelling) (form : LabelForm) (policy : PolicyParts) → GoodLabel form → IfSome (labelling_rule n labelling form policy) (IsRule policy.kinds policy.attributes)
unfolding labelling_rule
known_label n labelling form policy good =
    some_when (is_known_who policy.kinds policy.attributes form.source && is_known_who policy.kinds policy.attributes form.target && is_kind policy.kinds form.kind) _ (IsRule policy.kinds policy.attributes) (λ known.
    let all = and_parts (is_known_who policy.kinds policy.attributes form.source && is_known_who policy.kinds policy.attributes form.target) (is_kind policy.kinds form.kind) known in
    let both = and_parts (is_known_who policy.kinds policy.attributes form.source) (is_known_who policy.kinds policy.attributes form.target) all.0 in
    some_then (class_named form.class) _ (IsRule policy.kinds policy.attributes) (λ class is_class.
    record { source = good.source; source_known = both.0; target_known = both.1; verdict = good_verdict class labelling all.1 }))
  where
    good_verdict : (class : Class) (l : Labelling) → is_kind policy.kinds form.kind ≡ true → MayVerdict policy.kinds class (labelled l form.kind)
    good_verdict class Transition h = h
    good_verdict class Member h = h
