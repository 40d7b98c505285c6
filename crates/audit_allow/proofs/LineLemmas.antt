-- What a policy decides with the lines of grants behind those of a version.
use Rattle.std.proofs.Common.{◌≡◌, ◌≢◌, ◌∙◌, ◌+◌, ◌<◌, ◌≤◌, ℕ, zero, suc, Bool, true, false, cond, not, List, [], ◌∷◌, ◌++◌, length, map, slice_get, Option, Some, None, bit_or, refl, sym, ap, append_assoc, arith}
use Rattle.std.specs.Prelude.{◌&&◌, ◌||◌}
use Rattle.std.specs.List.{list_any}
use Rattle.std.specs.Str.{bytes_eq}
use Rattle.std.proofs.lemmas.Bool.{false≢true}
use Rattle.std.proofs.lemmas.List.{append-nil}
use Rattle.std.proofs.lemmas.List.Folds.{list_any_at}
use Rattle.access_vectors.specs.declared.class.Class.{Class}
use Rattle.access_vectors.specs.Vectors.{has}
use Rattle.policy_model.specs.declared.policy.AttributeLine.{AttributeLine}
use Rattle.policy_model.specs.declared.policy.KindLine.{KindLine}
use Rattle.policy_model.specs.declared.policy.Labelling.{Labelling}
use Rattle.policy_model.specs.declared.policy.Labelling.TheVariants.{Transition, Member}
use Rattle.policy_model.specs.declared.policy.PolicyParts.{PolicyParts}
use Rattle.policy_model.specs.declared.policy.RuleLine.{RuleLine}
use Rattle.policy_model.specs.declared.policy.Verdict.TheVariants as verdict
use Rattle.policy_model.specs.declared.policy.Version.{Version}
use Rattle.policy_model.specs.Declarations.{is_kind, rules_of}
use Rattle.policy_model.specs.Deciding.{or_else, last_said, decided_vector, rules_at, vector_of, kind_given, gives_kind, given_kind}
use Rattle.policy_model.specs.Kept.{Grows, IsWholePolicy, IsApart}
use Rattle.policy_model.specs.Matching.{is_in, matches_source, matches_target, is_same_class, matches}
use Rattle.policy_model.proofs.DecidingLemmas.{allow_more, unmatched_more}
use Rattle.policy_model.proofs.VectorLemmas.{has-or}
use Rattle.policy_versions.specs.Places.{name_at, kind_at}
use Rattle.policy_versions.proofs.KindLemmas.{same_name, name_same, no_kind}
use Rattle.audit_allow.specs.declared.grant.Grant.{Grant}
use Rattle.audit_allow.specs.Appending.{line_of, versions_with, appended}
use Rattle.audit_allow.proofs.MemberLemmas.{Each}

-- a grant is for sources of one type, targets of another, and a class
abbrev pub is_for : PolicyParts → List ℕ → List ℕ → Class → Grant → Bool
is_for policy s t class grant = bytes_eq (kind_at policy grant.s) s && (bytes_eq (kind_at policy grant.t) t && is_same_class grant.class class)

-- it is for declared types, and its vector has 16 bits
pub record IsInside (policy : PolicyParts) (grant : Grant) : Type 0 where
  pub source : grant.s < length policy.kinds
  pub target : grant.t < length policy.kinds
  pub small : grant.perms < 65536

-- the type at a place is declared
pub kind_is : (kinds : List KindLine) (place : ℕ) → place < length kinds → is_kind kinds (name_at kinds place) ≡ true
unfolding is_kind
kind_is kinds place within = list_any_at (λ (kind : KindLine). bytes_eq kind.name (name_at kinds place)) kinds place no_kind within (name_same (name_at kinds place) (name_at kinds place) refl)

-- a type has no attribute's name
no_attribute : (kinds : List KindLine) (name kind : List ℕ) → is_kind kinds name ≡ true → (seen attributes : List AttributeLine) → Grows (λ before line. IsApart kinds line) seen attributes → is_in attributes name kind ≡ false
unfolding is_in
no_attribute kinds name kind declared seen [] apart = refl
no_attribute kinds name kind declared seen (attribute ∷ attributes) apart =
    rw (by_name (bytes_eq attribute.name name) refl) (no_attribute kinds name kind declared (seen ++ attribute ∷ []) attributes apart.1)
  where
    by_name : (b : Bool) → bytes_eq attribute.name name ≡ b → b ≡ false
    by_name false is = refl
    by_name true is = absurd (false≢true (sym apart.0.apart ∙ ap (is_kind kinds) (same_name attribute.name name is) ∙ declared))

or_false : (b : Bool) → (b || false) ≡ b
or_false true = refl
or_false false = refl

and_assoc : (a b c : Bool) → ((a && b) && c) ≡ (a && (b && c))
and_assoc true b c = refl
and_assoc false b c = refl

or_assoc : (a b c : Bool) → ((a || b) || c) ≡ (a || (b || c))
or_assoc true b c = refl
or_assoc false b c = refl

-- the line of a grant matches what the grant is for
line_matches : (policy : PolicyParts) → IsWholePolicy policy → (grant : Grant) → IsInside policy grant → (s t : List ℕ) (class : Class) → matches policy.attributes (line_of policy grant) s t class ≡ is_for policy s t class grant
unfolding matches matches_source matches_target
line_matches policy kept grant inside s t class =
    let from = no_attribute policy.kinds (kind_at policy grant.s) s (kind_is policy.kinds grant.s inside.source) [] policy.attributes kept.grown.apart in
    let to = no_attribute policy.kinds (kind_at policy grant.t) t (kind_is policy.kinds grant.t inside.target) [] policy.attributes kept.grown.apart in
    rw (from, to, or_false (bytes_eq (kind_at policy grant.s) s), or_false (bytes_eq (kind_at policy grant.t) t)) (and_assoc (bytes_eq (kind_at policy grant.s) s) (bytes_eq (kind_at policy grant.t) t) (is_same_class grant.class class))

-- one line more
line_more : (policy : PolicyParts) → IsWholePolicy policy → (above : List RuleLine) (grant : Grant) → IsInside policy grant → (s t : List ℕ) (class : Class) (index : ℕ)
    → has (decided_vector policy.attributes (above ++ line_of policy grant ∷ []) s t class) index ≡ (has (decided_vector policy.attributes above s t class) index || (is_for policy s t class grant && has grant.perms index))
line_more policy kept above grant inside s t class index = by_match (is_for policy s t class grant) (line_matches policy kept grant inside s t class)
  where
    before : ℕ
    before = decided_vector policy.attributes above s t class

    by_match : (b : Bool) → matches policy.attributes (line_of policy grant) s t class ≡ b
        → has (decided_vector policy.attributes (above ++ line_of policy grant ∷ []) s t class) index ≡ (has before index || (b && has grant.perms index))
    by_match true is = ap (λ vector. has vector index) (allow_more policy.attributes above (line_of policy grant) s t class grant.perms is refl inside.small) ∙ has-or before grant.perms index
    by_match false is = ap (λ vector. has vector index) (unmatched_more policy.attributes above (line_of policy grant) s t class is) ∙ sym (or_false (has before index))

-- some of these grants is for these types and this class, and has the permission at an index
abbrev pub is_granted : PolicyParts → List ℕ → List ℕ → Class → ℕ → List Grant → Bool
is_granted policy s t class index grants = list_any (λ grant. is_for policy s t class grant && has grant.perms index) grants

-- all lines more
lines_more : (policy : PolicyParts) → IsWholePolicy policy → (grants : List Grant) → Each (IsInside policy) grants → (above : List RuleLine) (s t : List ℕ) (class : Class) (index : ℕ)
    → has (decided_vector policy.attributes (above ++ map (line_of policy) grants) s t class) index ≡ (has (decided_vector policy.attributes above s t class) index || is_granted policy s t class index grants)
lines_more policy kept [] inside above s t class index =
    ap (λ rules. has (decided_vector policy.attributes rules s t class) index) (append-nil above) ∙ sym (or_false (has (decided_vector policy.attributes above s t class) index))
lines_more policy kept (grant ∷ grants) inside above s t class index =
    ap (λ rules. has (decided_vector policy.attributes rules s t class) index) (sym (append_assoc above (line_of policy grant ∷ []) (map (line_of policy) grants)))
    ∙ lines_more policy kept grants inside.1 (above ++ line_of policy grant ∷ []) s t class index
    ∙ ap (λ had. had || is_granted policy s t class index grants) (line_more policy kept above grant inside.0 s t class index)
    ∙ or_assoc (has (decided_vector policy.attributes above s t class) index) (is_for policy s t class grant && has grant.perms index) (is_granted policy s t class index grants)

-- the rule lines of the version, and of the others
with_own : (versions : List Version) (version : ℕ) (lines : List RuleLine) → version < length versions → rules_of (slice_get (versions_with versions version lines) version) ≡ rules_of (slice_get versions version) ++ lines
with_own [] version lines within = absurd (omega (arith, within))
with_own (first ∷ others) zero lines within = refl
with_own (first ∷ others) (suc version) lines within = with_own others version lines (omega (arith, within))

with_other : (versions : List Version) (version other : ℕ) (lines : List RuleLine) → other ≢ version → rules_of (slice_get (versions_with versions version lines) other) ≡ rules_of (slice_get versions other)
with_other [] version other lines apart = refl
with_other (first ∷ others) zero zero lines apart = absurd (apart refl)
with_other (first ∷ others) zero (suc other) lines apart = refl
with_other (first ∷ others) (suc version) zero lines apart = refl
with_other (first ∷ others) (suc version) (suc other) lines apart = with_other others version other lines (λ same. apart (ap suc same))

pub appended_other : (policy : PolicyParts) (version other : ℕ) (grants : List Grant) → other ≢ version → rules_at (appended policy version grants) other ≡ rules_at policy other
unfolding rules_at appended
appended_other policy version other grants apart = with_other policy.versions version other (map (line_of policy) grants) apart

-- which permissions the version decides then
pub appended_has : (policy : PolicyParts) → IsWholePolicy policy → (version : ℕ) → version < length policy.versions → (grants : List Grant) → Each (IsInside policy) grants → (s t : List ℕ) (class : Class) (index : ℕ)
    → has (vector_of (appended policy version grants) version s t class) index ≡ (has (vector_of policy version s t class) index || is_granted policy s t class index grants)
unfolding vector_of rules_at appended
appended_has policy kept version within grants inside s t class index =
    ap (λ rules. has (decided_vector policy.attributes rules s t class) index) (with_own policy.versions version (map (line_of policy) grants) within)
    ∙ lines_more policy kept grants inside (rules_of (slice_get policy.versions version)) s t class index

-- lines that say nothing behind others
silent_lines : {X : Type 0} (says : RuleLine → Option X) (rules lines : List RuleLine) → last_said says lines ≡ None → last_said says (rules ++ lines) ≡ last_said says rules
silent_lines says [] lines none = none
silent_lines says (rule ∷ rules) lines none = ap (λ said. or_else said (says rule)) (silent_lines says rules lines none)

silent_with : {X : Type 0} (says : RuleLine → Option X) (versions : List Version) (version number : ℕ) (lines : List RuleLine) → last_said says lines ≡ None
    → last_said says (rules_of (slice_get (versions_with versions version lines) number)) ≡ last_said says (rules_of (slice_get versions number))
silent_with says [] version number lines none = refl
silent_with says (first ∷ others) zero zero lines none = silent_lines says first.rules lines none
silent_with says (first ∷ others) zero (suc number) lines none = refl
silent_with says (first ∷ others) (suc version) zero lines none = refl
silent_with says (first ∷ others) (suc version) (suc number) lines none = silent_with says others version number lines none

-- an `allow` line gives no type
gives_none : (labelling : Labelling) (policy : PolicyParts) (grants : List Grant) (s t : List ℕ) (class : Class) → last_said (gives_kind labelling policy.attributes s t class) (map (line_of policy) grants) ≡ None
unfolding gives_kind
gives_none labelling policy [] s t class = refl
gives_none labelling policy (grant ∷ grants) s t class =
    rw (gives_none labelling policy grants s t class) (by_match labelling (matches policy.attributes (line_of policy grant) s t class))
  where
    by_match : (one : Labelling) (b : Bool) → cond b (kind_given one (verdict.Allow grant.perms)) None ≡ None
    by_match Transition true = refl
    by_match Member true = refl
    by_match one false = refl

-- so what a version gives stays
pub appended_given : (labelling : Labelling) (policy : PolicyParts) (version number : ℕ) (grants : List Grant) (s t : List ℕ) (class : Class) → given_kind labelling (appended policy version grants) number s t class ≡ given_kind labelling policy number s t class
unfolding given_kind rules_at appended
appended_given labelling policy version number grants s t class =
    silent_with (gives_kind labelling policy.attributes s t class) policy.versions version number (map (line_of policy) grants) (gives_none labelling policy grants s t class)
