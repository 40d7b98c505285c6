-- The first answer of many, and where a line is not broken.
use Rattle.std.proofs.Common.{◌≡◌, ◌≢◌, ◌∙◌, ℕ, zero, suc, ◌+◌, ◌<◌, ◌≤◌, Bool, true, false, List, [], ◌∷◌, length, get_or, take, Option, Some, None, bit_and, refl, sym, ap, arith, ⊎_elim, add-one}
use Rattle.std.specs.Prelude.{◌&&◌, SomeIff}
use Rattle.std.specs.Option.{option_map}
use Rattle.std.proofs.lemmas.Bool.{cases_eq, ne_eqb}
use Rattle.access_vectors.specs.declared.class.Class.{Class}
use Rattle.access_vectors.specs.declared.class.Class.TheVariants.{File, Dir, Process, Port, Security}
use Rattle.access_vectors.specs.Table.{perm_count}
use Rattle.access_vectors.specs.Vectors.{has}
use Rattle.access_vectors.proofs.Members.{has-empty, has-both}
use Rattle.policy_model.specs.declared.policy.Pattern.{Pattern}
use Rattle.policy_model.specs.declared.policy.PolicyParts.{PolicyParts}
use Rattle.policy_model.specs.declared.policy.WhoOf.{WhoOf}
use Rattle.policy_model.specs.declared.policy.WhoOf.TheVariants.{Itself}
use Rattle.policy_model.specs.Matching.{matches_source, matches_target, matches_permission, is_same_class}
use Rattle.policy_model.specs.Deciding.{or_else, vector_of}
use Rattle.policy_versions.specs.Places.{kind_at}
use Rattle.policy_versions.specs.Nevers.{first_below, first_of, common, is_broken, broken_perm, break_with, break_at, break_from, AreTargets}
use Rattle.policy_versions.specs.Sets.{has_place}
use Rattle.policy_versions.specs.Kinds.{AreApart}
use Rattle.policy_versions.proofs.KindLemmas.{same_place, name_same}

-- no number yet
pub below_zero : {X : Type 0} (answer : ℕ → Option X) → first_below 0 answer ≡ None
unfolding first_below
below_zero answer = refl

-- all numbers
pub below_full : {X : Type 0} (answer : ℕ → Option X) (i n : ℕ) → n ≤ i → i ≤ n → first_below i answer ≡ None → first_below n answer ≡ None
below_full answer i n past within none = let same : i ≡ n = omega arith in rw same at none

-- no answer so far, and none at the next number
pub below_next : {X : Type 0} (answer : ℕ → Option X) (i : ℕ) → first_below i answer ≡ None → answer i ≡ None → first_below (i + 1) answer ≡ None
unfolding first_below
below_next answer i none here = rw (add-one, none) here

-- no answer at all
pub below_none : {X : Type 0} (answer : ℕ → Option X) (n : ℕ) → ((i : ℕ) → i < n → answer i ≡ None) → first_below n answer ≡ None
unfolding first_below
below_none answer zero none = refl
below_none answer (suc n) none = rw (below_none answer n (λ i h. none i (omega arith))) (none n (omega arith))

-- the first answer
pub below_found : {X : Type 0} (answer : ℕ → Option X) (n i : ℕ) (x : X) → i < n → first_below i answer ≡ None → answer i ≡ Some x → first_below n answer ≡ Some x
unfolding first_below
below_found answer zero i x h none found = absurd (omega arith)
below_found answer (suc n) i x h none found =
    ⊎_elim
    (λ same. let here : answer n ≡ Some x = rw same at found in let so_far : first_below n answer ≡ None = rw same at none in rw so_far here)
    (λ apart. rw (below_found answer n i x (omega arith) none found) refl)
    (cases_eq i n)

-- an answer at one number alone
pub below_only : {X : Type 0} (answer : ℕ → Option X) (n i : ℕ) → i < n → ((j : ℕ) → j < n → j ≢ i → answer j ≡ None) → first_below n answer ≡ answer i
below_only {X} answer n i h none = by_answer (answer i) refl
  where
    before : first_below i answer ≡ None
    before = below_none answer i (λ j low. none j (omega arith) (omega arith))

    by_answer : (o : Option X) → answer i ≡ o → first_below n answer ≡ o
    by_answer (Some x) is = below_found answer n i x h before is
    by_answer None is = below_none answer n (λ j low. ⊎_elim (λ same. rw same is) (λ apart. none j low apart) (cases_eq j i))

-- the same answers
pub below_same : {X : Type 0} (f g : ℕ → Option X) (n : ℕ) → ((i : ℕ) → f i ≡ g i) → first_below n f ≡ first_below n g
unfolding first_below
below_same f g zero same = refl
below_same f g (suc n) same = rw (below_same f g n same, same n) refl

-- neither of two answers
neither : {X : Type 0} (a b : Option X) → or_else a b ≡ None → (a ≡ None) × (b ≡ None)
neither None b h = (refl, h)
neither (Some x) b h = cc

-- no answer for the members so far, and none for the next
pub of_next : {X Y : Type 0} (answer : X → Option Y) (xs : List X) (i : ℕ) (x : X) → i < length xs → x ≡ get_or xs i x → first_of answer (take i xs) ≡ None → answer x ≡ None → first_of answer (take (i + 1) xs) ≡ None
of_next answer [] i x h read none here = absurd (omega arith)
of_next answer (y ∷ xs) zero x h read none here = rw (← read, here) refl
of_next answer (y ∷ xs) (suc i) x h read none here =
    let parts = neither (answer y) (first_of answer (take i xs)) none in
    rw (add-one, parts.0) (rw add-one at (of_next answer xs i x (omega arith) read parts.1 here))

-- the first answer for a member
pub of_found : {X Y : Type 0} (answer : X → Option Y) (xs : List X) (i : ℕ) (x : X) (y : Y) → i < length xs → x ≡ get_or xs i x → first_of answer (take i xs) ≡ None → answer x ≡ Some y → first_of answer xs ≡ Some y
of_found answer [] i x y h read none found = absurd (omega arith)
of_found answer (z ∷ xs) zero x y h read none found = rw (← read, found) refl
of_found answer (z ∷ xs) (suc i) x y h read none found =
    let parts = neither (answer z) (first_of answer (take i xs)) none in
    rw parts.0 (of_found answer xs i x y (omega arith) read parts.1 found)

-- a class is itself
same_class : (class : Class) → is_same_class class class ≡ true
same_class File = refl
same_class Dir = refl
same_class Process = refl
same_class Port = refl
same_class Security = refl

-- where a line matches the source, what it forbids of a target that it matches
pub broken_common : (policy : PolicyParts) (version : ℕ) (pattern : Pattern) (s t vector : ℕ) → matches_source policy.attributes pattern.source (kind_at policy s) ≡ true → matches_target policy.attributes pattern.target (kind_at policy s) (kind_at policy t) ≡ true → vector ≡ vector_of policy version (kind_at policy s) (kind_at policy t) pattern.class → broken_perm policy version pattern s t ≡ first_below (perm_count pattern.class) (common pattern.class pattern.perms vector)
unfolding broken_perm is_broken matches_permission
broken_common policy version pattern s t vector source target is =
    below_same _ (common pattern.class pattern.perms vector) (perm_count pattern.class) (λ index. rw (source, target, same_class pattern.class, is) refl)

-- what is there, where it is there exactly under a condition that holds
pub some_if : {X : Type 0} (o : Option X) (P : Type 0) (x : X) → SomeIff o P x → P → o ≡ Some x
some_if None P x none p = absurd (none p)
some_if (Some y) P x some p = ap Some some.1

-- where a line does not match the source
pub unbroken_source : (policy : PolicyParts) (version : ℕ) (pattern : Pattern) (s t : ℕ) → matches_source policy.attributes pattern.source (kind_at policy s) ≡ false → break_at policy version pattern s t ≡ None
unfolding broken_perm is_broken matches_permission
unbroken_source policy version pattern s t other =
    ap (option_map (break_with version pattern s t)) (below_none _ (perm_count pattern.class) (λ index h. rw other refl))

-- where a line does not match the target
pub unbroken_target : (policy : PolicyParts) (version : ℕ) (pattern : Pattern) (s t : ℕ) → matches_source policy.attributes pattern.source (kind_at policy s) ≡ true → matches_target policy.attributes pattern.target (kind_at policy s) (kind_at policy t) ≡ false → break_at policy version pattern s t ≡ None
unfolding broken_perm is_broken matches_permission
unbroken_target policy version pattern s t source other =
    ap (option_map (break_with version pattern s t)) (below_none _ (perm_count pattern.class) (λ index h. rw (source, other) refl))

-- where a line matches and the vector has nothing that it forbids
pub unbroken_pair : (policy : PolicyParts) (version : ℕ) (pattern : Pattern) (s t vector : ℕ) → matches_source policy.attributes pattern.source (kind_at policy s) ≡ true → matches_target policy.attributes pattern.target (kind_at policy s) (kind_at policy t) ≡ true → vector ≡ vector_of policy version (kind_at policy s) (kind_at policy t) pattern.class → bit_and vector pattern.perms ≡ 0 → break_at policy version pattern s t ≡ None
unbroken_pair policy version pattern s t vector source target is apart =
    ap (option_map (break_with version pattern s t)) (broken_common policy version pattern s t vector source target is
    ∙ below_none (common pattern.class pattern.perms vector) (perm_count pattern.class) (λ index h. none index))
  where
    swap : (a b : Bool) → (a && b) ≡ (b && a)
    swap true true = refl
    swap true false = refl
    swap false true = refl
    swap false false = refl

    none : (index : ℕ) → common pattern.class pattern.perms vector index ≡ None
    none index =
        let both : (has pattern.perms index && has vector index) ≡ false = swap (has pattern.perms index) (has vector index) ∙ sym (has-both vector pattern.perms index) ∙ ap (λ v. has v index) apart ∙ has-empty index in
        rw both refl

-- where a set of targets meets nothing
pub unmet : (policy : PolicyParts) (version : ℕ) (pattern : Pattern) (s : ℕ) (words : List ℕ) (vector : ℕ → ℕ) → length policy.kinds ≤ 128 → AreTargets policy pattern.target words → matches_source policy.attributes pattern.source (kind_at policy s) ≡ true → ((t : ℕ) → t < length policy.kinds → vector t ≡ vector_of policy version (kind_at policy s) (kind_at policy t) pattern.class) → ((t : ℕ) → t < 128 → has_place words t ≡ true → bit_and (vector t) pattern.perms ≡ 0) → break_from policy version pattern s ≡ None
unfolding break_from
unmet policy version pattern s words vector few targets source are apart =
    below_none (break_at policy version pattern s) (length policy.kinds) (λ t h. by_target t h (has_place words t) refl)
  where
    by_target : (t : ℕ) → t < length policy.kinds → (b : Bool) → has_place words t ≡ b → break_at policy version pattern s t ≡ None
    by_target t h true has =
        unbroken_pair policy version pattern s t (vector t) source (sym (targets (kind_at policy s) t h) ∙ has) (are t h) (apart t (omega arith) has)
    by_target t h false has = unbroken_target policy version pattern s t source (sym (targets (kind_at policy s) t h) ∙ has)

-- a line whose target is `self` is broken by a source on itself alone
pub broken_own : (policy : PolicyParts) (version : ℕ) (pattern : Pattern) (s : ℕ) → AreApart policy.kinds → s < length policy.kinds → matches_source policy.attributes pattern.source (kind_at policy s) ≡ true → pattern.target ≡ Itself → break_from policy version pattern s ≡ break_at policy version pattern s s
unfolding break_from matches_target
broken_own policy version pattern s apart within source is =
    below_only (break_at policy version pattern s) (length policy.kinds) s within
    (λ t h differ. unbroken_target policy version pattern s t source (rw is (sym (same_place policy.kinds s t apart within h) ∙ ne_eqb s t (λ e. differ (sym e)))))

-- a target that is `self` matches the source's own type
pub own_matches : (policy : PolicyParts) (target : WhoOf (List ℕ)) (s : List ℕ) → target ≡ Itself → matches_target policy.attributes target s s ≡ true
unfolding matches_target
own_matches policy target s is = rw is (name_same s s refl)

-- a source that a line does not match breaks nothing
pub unbroken_from : (policy : PolicyParts) (version : ℕ) (pattern : Pattern) (s : ℕ) → matches_source policy.attributes pattern.source (kind_at policy s) ≡ false → break_from policy version pattern s ≡ None
unfolding break_from
unbroken_from policy version pattern s other =
    below_none (break_at policy version pattern s) (length policy.kinds) (λ t h. unbroken_source policy version pattern s t other)
