-- Types by their places: each is found by its name, and what a line gives is declared.
use Rattle.std.proofs.Common.{◌≡◌, ◌<◌, ◌≤◌, ℕ, zero, suc, Bool, true, false, cond, List, [], ◌∷◌, ◌++◌, length, Option, Some, None, subst, arith}
use Rattle.std.specs.Prelude.{slice_get}
use Rattle.std.specs.List.{list_any, position_or_len}
use Rattle.std.specs.Str.{bytes_eq}
use Rattle.std.proofs.lemmas.Bool.Decides.{nat_tests}
use Rattle.std.proofs.lemmas.List.Sums.{passes_at_first}
use Rattle.access_vectors.specs.declared.class.Class.{Class}
use Rattle.policy_model.specs.declared.policy.KindLine.{KindLine}
use Rattle.policy_model.specs.declared.policy.AttributeLine.{AttributeLine}
use Rattle.policy_model.specs.declared.policy.RuleLine.{RuleLine}
use Rattle.policy_model.specs.declared.policy.Version.{Version}
use Rattle.policy_model.specs.declared.policy.Verdict.{Verdict}
use Rattle.policy_model.specs.declared.policy.Verdict.TheVariants as verdict
use Rattle.policy_model.specs.declared.policy.PolicyParts.{PolicyParts}
use Rattle.policy_model.specs.declared.policy.Labelling.{Labelling}
use Rattle.policy_model.specs.declared.policy.Labelling.TheVariants.{Transition, Member}
use Rattle.policy_model.specs.Declarations.{is_kind, rules_of}
use Rattle.policy_model.specs.Matching.{matches}
use Rattle.policy_model.specs.Deciding.{or_else, last_said, kind_given, gives_kind, given_kind, rules_at}
use Rattle.policy_model.specs.Kept.{Grows, MayContext, MayVerdict, MayRule, MayVersion, IsWholePolicy}
use Rattle.policy_versions.specs.Kinds.{IsPlaceOf}
use Rattle.policy_versions.proofs.GrowsLemmas.{grows_few}
use Rattle.policy_versions.proofs.KindLemmas.{same_name, no_kind}

-- the first of two answers that say something
first_said : {X : Type 0} (P : X → Type 0) (a b : Option X) → ((x : X) → a ≡ Some x → P x) → ((x : X) → b ≡ Some x → P x) → (x : X) → or_else a b ≡ Some x → P x
first_said P (Some y) b of_a of_b x said = of_a x said
first_said P None b of_a of_b x said = of_b x said

-- a verdict gives a declared type
verdict_declared : (kinds : List KindLine) (class : Class) (labelling : Labelling) (v : Verdict) → MayVerdict kinds class v → (name : List ℕ) → kind_given labelling v ≡ Some name → is_kind kinds name ≡ true
verdict_declared kinds class Transition (verdict.Transition kind) may name said = let same : kind ≡ name = cc in subst (λ one. is_kind kinds one ≡ true) same may
verdict_declared kinds class Transition (verdict.Member kind) may name said = cc
verdict_declared kinds class Transition (verdict.Allow perms) may name said = cc
verdict_declared kinds class Transition (verdict.Withhold perms) may name said = cc
verdict_declared kinds class Member (verdict.Member kind) may name said = let same : kind ≡ name = cc in subst (λ one. is_kind kinds one ≡ true) same may
verdict_declared kinds class Member (verdict.Transition kind) may name said = cc
verdict_declared kinds class Member (verdict.Allow perms) may name said = cc
verdict_declared kinds class Member (verdict.Withhold perms) may name said = cc

-- a rule line gives a declared type
rule_declared : (kinds : List KindLine) (attributes : List AttributeLine) (labelling : Labelling) (s t : List ℕ) (class : Class) (rule : RuleLine) → MayVerdict kinds rule.class rule.verdict → (name : List ℕ) → gives_kind labelling attributes s t class rule ≡ Some name → is_kind kinds name ≡ true
unfolding gives_kind
rule_declared kinds attributes labelling s t class rule may name said =
    elim (matches attributes rule s t class) as (λ b. cond b (kind_given labelling rule.verdict) None ≡ Some name → is_kind kinds name ≡ true) [
      | true ↦ λ h. verdict_declared kinds rule.class labelling rule.verdict may name h
      | false ↦ λ h. cc
    ] said

-- rule lines give a declared type
rules_declared : (kinds : List KindLine) (attributes : List AttributeLine) (labelling : Labelling) (s t : List ℕ) (class : Class) (seen rules : List RuleLine) → Grows (MayRule kinds attributes) seen rules → (name : List ℕ) → last_said (gives_kind labelling attributes s t class) rules ≡ Some name → is_kind kinds name ≡ true
rules_declared kinds attributes labelling s t class seen [] grows name said = cc
rules_declared kinds attributes labelling s t class seen (rule ∷ rules) grows name said =
    first_said (λ one. is_kind kinds one ≡ true) _ _
    (rules_declared kinds attributes labelling s t class (seen ++ rule ∷ []) rules grows.1)
    (rule_declared kinds attributes labelling s t class rule grows.0.good.verdict)
    name said

-- a version's rule lines give a declared type
versions_declared : (kinds : List KindLine) (attributes : List AttributeLine) (labelling : Labelling) (s t : List ℕ) (class : Class) (seen versions : List Version) (version : ℕ) → Grows (MayVersion kinds attributes) seen versions → (name : List ℕ) → last_said (gives_kind labelling attributes s t class) (rules_of (slice_get versions version)) ≡ Some name → is_kind kinds name ≡ true
versions_declared kinds attributes labelling s t class seen [] version grows name said = cc
versions_declared kinds attributes labelling s t class seen (one ∷ versions) zero grows name said =
    rules_declared kinds attributes labelling s t class [] one.rules grows.0.rules name said
versions_declared kinds attributes labelling s t class seen (one ∷ versions) (suc version) grows name said =
    versions_declared kinds attributes labelling s t class (seen ++ one ∷ []) versions version grows.1 name said

-- what a version gives is a declared type
pub given_declared : (policy : PolicyParts) → IsWholePolicy policy → (labelling : Labelling) (version : ℕ) (s t : List ℕ) (class : Class) (name : List ℕ) → given_kind labelling policy version s t class ≡ Some name → is_kind policy.kinds name ≡ true
unfolding given_kind rules_at
given_declared policy kept labelling version s t class name said =
    versions_declared policy.kinds policy.attributes labelling s t class [] policy.versions version kept.grown.versions name said

-- the first place that passes, where some element does
first_place : {X : Type 0} (p : X → Bool) (xs : List X) → list_any p xs ≡ true → position_or_len p xs < length xs
first_place p [] some = cc
first_place p (x ∷ xs) some = grind (arith, nat_tests, first_place p xs)

-- a declared type has a place
pub place_of_kind : (kinds : List KindLine) (name : List ℕ) → is_kind kinds name ≡ true → (place : ℕ) × IsPlaceOf kinds name place
unfolding is_kind
place_of_kind kinds name some =
    let test : KindLine → Bool = λ kind. bytes_eq kind.name name in
    let place : ℕ = position_or_len test kinds in
    let within : place < length kinds = first_place test kinds some in
    (place, record { within = within; named = same_name _ _ (passes_at_first test kinds no_kind within) })

-- there are at most 4,095 declared contexts and 64 versions
pub few_contexts : (policy : PolicyParts) → IsWholePolicy policy → length policy.contexts ≤ 4095
few_contexts policy kept = omega (arith, grows_few (MayContext policy.kinds) 4095 (λ seen x may. may.few) [] policy.contexts (omega arith) kept.grown.contexts)

pub few_versions : (policy : PolicyParts) → IsWholePolicy policy → length policy.versions ≤ 64
few_versions policy kept = omega (arith, grows_few (MayVersion policy.kinds policy.attributes) 64 (λ seen x may. may.few) [] policy.versions (omega arith) kept.grown.versions)
