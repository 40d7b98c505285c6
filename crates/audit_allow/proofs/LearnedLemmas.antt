-- What is learned teaches what was denied and nothing else, and no grant of it can be spared.
use Rattle.std.proofs.Common.{◌≡◌, ◌≢◌, ◌∙◌, ◌+◌, ◌<◌, ◌≤◌, ◌^◌, ℕ, zero, suc, Bool, true, false, cond, not, eqb, ltb, List, [], ◌∷◌, ◌++◌, length, map, get_or, slice_get, Option, Some, None, bit_or, refl, sym, ap, subst, arith}
use Rattle.std.specs.Prelude.{◌&&◌, ◌||◌, ◌==◌, unwrap_or}
use Rattle.std.specs.List.{list_any}
use Rattle.std.specs.Str.{bytes_eq}
use Rattle.std.proofs.lemmas.Bool.{false≢true, eqb-true, eq-eqb, lt-ltb, and_parts, and_from}
use Rattle.std.proofs.lemmas.Nat.{or_lt}
use Rattle.std.proofs.Math.Pow.{pow-lt}
use Rattle.std.proofs.lemmas.List.Folds.{list_any_at}
use Rattle.flask_sid.specs.declared.context.ContextOf.{ContextOf}
use Rattle.access_vectors.specs.declared.asked.Asked.{Asked}
use Rattle.access_vectors.specs.declared.class.Class.{Class}
use Rattle.access_vectors.specs.declared.class.Class.TheVariants.{File, Dir, Process, Port, Security}
use Rattle.access_vectors.specs.Table.{Permission, code_of, class_coded, perm_count}
use Rattle.access_vectors.specs.Vectors.{has, with_index}
use Rattle.access_vectors.proofs.Members.{has-empty, same_from_has}
use Rattle.policy_model.specs.declared.policy.Labelling.TheVariants as labelling
use Rattle.policy_model.specs.declared.policy.Pattern.{Pattern}
use Rattle.policy_model.specs.declared.policy.PolicyParts.{PolicyParts}
use Rattle.policy_model.specs.Deciding.{vector_where, vector_of, label_of, member_of, takes_after_maker, object_role}
use Rattle.policy_model.specs.Kept.{IsWholePolicy}
use Rattle.policy_model.specs.Matching.{is_same_class, matches_permission}
use Rattle.policy_model.proofs.VectorLemmas.{has-where, has-or}
use Rattle.policy_versions.specs.Nevers.{is_broken}
use Rattle.policy_versions.specs.Places.{name_at, kind_at}
use Rattle.policy_versions.proofs.KindLemmas.{same_name, name_same, kinds_apart, kinds_few}
use Rattle.audit_allow.specs.declared.grant.Grant.{Grant}
use Rattle.audit_allow.specs.declared.grant.GrantKind.{GrantKind}
use Rattle.audit_allow.specs.declared.grant.GrantKind.TheVariants.{Allow, Refused}
use Rattle.audit_allow.specs.Denials.{Lesson, source_of, target_of, is_between, is_about, is_denial_of, is_denied, is_forbidden}
use Rattle.audit_allow.specs.Grants.{belongs_to, is_learned, learned_vector, grant_of, grants_of, grants}
use Rattle.audit_allow.specs.Appending.{appended, Teaches, AreDenials, Lacks, AreLeast}
use Rattle.audit_allow.proofs.GrantLemmas.{grant_some}
use Rattle.audit_allow.proofs.MemberLemmas.{Each, each_more, each_front, each_back, each_append, none_passes, key_of, Apart, grants_apart, others_apart, IsLearned, each_learned, any_learned}
use Rattle.audit_allow.proofs.LineLemmas.{is_for, IsInside, is_granted, appended_other, appended_has, appended_given}

-- a class by its code
decoded : ℕ → Class
decoded code = unwrap_or (class_coded code) File

decoded_is : (class : Class) → decoded (code_of class) ≡ class
unfolding class_coded decoded
decoded_is File = refl
decoded_is Dir = refl
decoded_is Process = refl
decoded_is Port = refl
decoded_is Security = refl

-- classes of one code are one
same_class : (a b : Class) → is_same_class a b ≡ true → a ≡ b
same_class a b same = sym (decoded_is a) ∙ ap decoded (eqb-true (code_of a) (code_of b) same) ∙ decoded_is b

class_itself : (class : Class) → is_same_class class class ≡ true
class_itself class = eq-eqb (code_of class) (code_of class) refl

-- two tests of which each passes where the other does
same_bool : (a b : Bool) → (a ≡ true → b ≡ true) → (b ≡ true → a ≡ true) → a ≡ b
same_bool true b there back = sym (there refl)
same_bool false true there back = back refl
same_bool false false there back = refl

-- learned vectors have 16 bits
where_small : (n : ℕ) (test : ℕ → Bool) → n ≤ 16 → vector_where n test < 65536
unfolding vector_where with_index
where_small zero test within = omega arith
where_small (suc n) test within =
    let below : vector_where n test < 2 ^ 16 = where_small n test (omega (arith, within)) in
    elim (test n) as (λ b. cond b (with_index (vector_where n test) n) (vector_where n test) < 2 ^ 16) [
      | true ↦ or_lt 16 (vector_where n test) (2 ^ n) below (pow-lt {i = n} {j = 16} (omega (arith, within)))
      | false ↦ below
    ]

count_small : (class : Class) → perm_count class ≤ 16
count_small File = omega arith
count_small Dir = omega arith
count_small Process = omega arith
count_small Port = omega arith
count_small Security = omega arith

learned_small : (list : GrantKind) (lesson : Lesson) (s t : List ℕ) (class : Class) → learned_vector list lesson s t class < 65536
unfolding learned_vector
learned_small list lesson s t class = where_small (perm_count class) _ (count_small class)

-- so each grant may be appended
inside_of : (list : GrantKind) (lesson : Lesson) (some : List Grant) → Each (IsLearned list lesson) some → Each (IsInside lesson.policy) some
inside_of list lesson some are =
    each_more (IsLearned list lesson) (IsInside lesson.policy) (λ grant is. record {
      source = is.source;
      target = is.target;
      small = subst (λ perms. perms < 65536) (sym is.perms) (learned_small list lesson (kind_at lesson.policy grant.s) (kind_at lesson.policy grant.t) grant.class);
    }) some are

-- a grant for types and a class has what is learned for them
own_perms : (list : GrantKind) (lesson : Lesson) (s t : ℕ) (class : Class) (index : ℕ) (grant : Grant) → IsLearned list lesson grant
    → (is_for lesson.policy (kind_at lesson.policy s) (kind_at lesson.policy t) class grant && has grant.perms index) ≡ true
    → has (learned_vector list lesson (kind_at lesson.policy s) (kind_at lesson.policy t) class) index ≡ true
own_perms list lesson s t class index grant is passes =
    let parts = and_parts _ _ passes in
    let names = and_parts _ _ parts.0 in
    let rest = and_parts _ _ names.1 in
    let from : kind_at lesson.policy grant.s ≡ kind_at lesson.policy s = same_name _ _ names.0 in
    let to : kind_at lesson.policy grant.t ≡ kind_at lesson.policy t = same_name _ _ rest.0 in
    let of : grant.class ≡ class = same_class grant.class class rest.1 in
    rw (← from, ← to, ← of, ← is.perms) parts.1

any_of : (p : Grant → Bool) (P : Type 0) (some : List Grant) → Each (λ grant. p grant ≡ true → P) some → list_any p some ≡ true → P
any_of p P [] each passes = absurd (false≢true passes)
any_of p P (grant ∷ others) each passes = by_first (p grant) refl passes (any_of p P others each.1)
  where
    by_first : (b : Bool) → p grant ≡ b → (b || list_any p others) ≡ true → (list_any p others ≡ true → P) → P
    by_first true is passes further = each.0 is
    by_first false is passes further = further passes

-- grants together have what is learned for types and a class
granted_is : (list : GrantKind) (lesson : Lesson) (s t : ℕ) (class : Class) (index : ℕ) → s < length lesson.policy.kinds → t < length lesson.policy.kinds
    → is_granted lesson.policy (kind_at lesson.policy s) (kind_at lesson.policy t) class index (grants list lesson) ≡ has (learned_vector list lesson (kind_at lesson.policy s) (kind_at lesson.policy t) class) index
granted_is list lesson s t class index hs ht = same_bool _ _ there back
  where
    ks : List ℕ
    ks = kind_at lesson.policy s

    kt : List ℕ
    kt = kind_at lesson.policy t

    vector : ℕ
    vector = learned_vector list lesson ks kt class

    test : Grant → Bool
    test grant = is_for lesson.policy ks kt class grant && has grant.perms index

    there : is_granted lesson.policy ks kt class index (grants list lesson) ≡ true → has vector index ≡ true
    there passes = any_of test (has vector index ≡ true) (grants list lesson) (each_more (IsLearned list lesson) (λ grant. test grant ≡ true → has vector index ≡ true) (own_perms list lesson s t class index) (grants list lesson) (each_learned list lesson)) passes

    own : Grant
    own = record { s = s; t = t; class = class; perms = vector }

    itself : has vector index ≡ true → test own ≡ true
    itself some = rw (name_same ks ks refl, name_same kt kt refl, class_itself class) some

    some_perms : has vector index ≡ true → not (eqb vector 0) ≡ true
    some_perms some = by_empty (eqb vector 0) refl
      where
        by_empty : (b : Bool) → eqb vector 0 ≡ b → not b ≡ true
        by_empty false is = refl
        by_empty true is = absurd (false≢true (sym (ap (λ v. has v index) (eqb-true vector 0 is) ∙ has-empty index) ∙ some))

    back : has vector index ≡ true → is_granted lesson.policy ks kt class index (grants list lesson) ≡ true
    back some =
        any_learned test list lesson s t class hs ht
        (ap (list_any test) (sym (grant_some s t class vector (some_perms some))) ∙ ap (λ b. b || false) (itself some))

-- which permissions the version decides with what is learned
has_then : (lesson : Lesson) → IsWholePolicy lesson.policy → (version : ℕ) → version < length lesson.policy.versions → (s t : ℕ) (class : Class) (index : ℕ) → s < length lesson.policy.kinds → t < length lesson.policy.kinds
    → has (vector_of (appended lesson.policy version (grants Allow lesson)) version (kind_at lesson.policy s) (kind_at lesson.policy t) class) index
    ≡ (has (vector_of lesson.policy version (kind_at lesson.policy s) (kind_at lesson.policy t) class) index || has (learned_vector Allow lesson (kind_at lesson.policy s) (kind_at lesson.policy t) class) index)
has_then lesson kept version within s t class index hs ht =
    appended_has lesson.policy kept version within (grants Allow lesson) (inside_of Allow lesson (grants Allow lesson) (each_learned Allow lesson)) (kind_at lesson.policy s) (kind_at lesson.policy t) class index
    ∙ ap (λ b. has (vector_of lesson.policy version (kind_at lesson.policy s) (kind_at lesson.policy t) class) index || b) (granted_is Allow lesson s t class index hs ht)

-- labels and members are as before
label_same : (policy : PolicyParts) (version : ℕ) (some : List Grant) (number : ℕ) (s t : ContextOf (List ℕ)) (class : Class) → label_of (appended policy version some) number s t class ≡ label_of policy number s t class
unfolding label_of
label_same policy version some number s t class = rw (appended_given labelling.Transition policy version number some s.kind t.kind class) refl

member_same : (policy : PolicyParts) (version : ℕ) (some : List Grant) (number : ℕ) (s t : ContextOf (List ℕ)) (class : Class) → member_of (appended policy version some) number s t class ≡ member_of policy number s t class
unfolding member_of
member_same policy version some number s t class = rw (appended_given labelling.Member policy version number some s.kind t.kind class) refl

-- what is learned was denied, and no `neverallow` line matches it
learned_parts : (list : GrantKind) (lesson : Lesson) (s t : List ℕ) (class : Class) (index : ℕ) → has (learned_vector list lesson s t class) index ≡ true → is_learned list lesson s t (record { class = class; index = index }) ≡ true
unfolding learned_vector
learned_parts list lesson s t class index some =
    (and_parts (ltb index (perm_count class)) _ (sym (has-where (perm_count class) (λ at. is_learned list lesson s t (record { class = class; index = at })) index) ∙ some)).1

free_of : (lesson : Lesson) (s t : List ℕ) (perm : Permission) → is_learned Allow lesson s t perm ≡ true → (is_denied lesson.contexts lesson.asked s t perm ≡ true) × (is_forbidden lesson.policy s t perm ≡ false)
unfolding is_learned
free_of lesson s t perm is =
    let parts = and_parts (is_denied lesson.contexts lesson.asked s t perm) (not (is_forbidden lesson.policy s t perm)) is in
    (parts.0, un_not (is_forbidden lesson.policy s t perm) parts.1)
  where
    un_not : (b : Bool) → not b ≡ true → b ≡ false
    un_not false h = refl
    un_not true h = absurd (false≢true h)

-- a member that passes
any_at : {X : Type 0} (p : X → Bool) (xs : List X) (at : ℕ) (x : X) → slice_get xs at ≡ Some x → p x ≡ true → list_any p xs ≡ true
any_at p [] at x is passes = cc
any_at p (y ∷ ys) zero x is passes = let same : y ≡ x = cc in rw (same, passes) refl
any_at p (y ∷ ys) (suc at) x is passes = ap (λ b. p y || b) (any_at p ys at x is passes) ∙ or_true (p y)
  where
    or_true : (b : Bool) → (b || true) ≡ true
    or_true true = refl
    or_true false = refl

record Found {X : Type 0} (p : X → Bool) (xs : List X) : Type 0 where
  at : ℕ
  member : X
  is_at : slice_get xs at ≡ Some member
  passes : p member ≡ true

find_at : {X : Type 0} (p : X → Bool) (xs : List X) → list_any p xs ≡ true → Found p xs
find_at p [] some = absurd (false≢true some)
find_at p (x ∷ xs) some = by_first (p x) refl some (find_at p xs)
  where
    by_first : (b : Bool) → p x ≡ b → (b || list_any p xs) ≡ true → (list_any p xs ≡ true → Found p xs) → Found p (x ∷ xs)
    by_first true is some further = record { at = 0; member = x; is_at = refl; passes = is }
    by_first false is some further = let behind = further some in record { at = suc behind.at; member = behind.member; is_at = behind.is_at; passes = behind.passes }

-- no `neverallow` line is broken that held
never_same : (lesson : Lesson) → IsWholePolicy lesson.policy → (version : ℕ) → version < length lesson.policy.versions → (pattern : Pattern) (at s t index : ℕ) → slice_get lesson.policy.nevers at ≡ Some pattern
    → s < length lesson.policy.kinds → t < length lesson.policy.kinds → is_broken (appended lesson.policy version (grants Allow lesson)) version pattern s t index ≡ true → is_broken lesson.policy version pattern s t index ≡ true
unfolding is_broken is_forbidden appended
never_same lesson kept version within pattern at s t index is hs ht broken =
    by_before (has (vector_of lesson.policy version ks kt pattern.class) index) refl (sym (has_then lesson kept version within s t pattern.class index hs ht) ∙ parts.1)
  where
    ks : List ℕ
    ks = kind_at lesson.policy s

    kt : List ℕ
    kt = kind_at lesson.policy t

    parts : (matches_permission lesson.policy.attributes pattern ks kt (record { class = pattern.class; index = index }) ≡ true) × (has (vector_of (appended lesson.policy version (grants Allow lesson)) version ks kt pattern.class) index ≡ true)
    parts = and_parts _ _ broken

    by_before : (b : Bool) → has (vector_of lesson.policy version ks kt pattern.class) index ≡ b → (b || has (learned_vector Allow lesson ks kt pattern.class) index) ≡ true → is_broken lesson.policy version pattern s t index ≡ true
    by_before true before then = and_from _ _ parts.0 before
    by_before false before then =
        absurd (false≢true (sym (free_of lesson ks kt (record { class = pattern.class; index = index }) (learned_parts Allow lesson ks kt pattern.class index then)).1
        ∙ any_at (λ one. matches_permission lesson.policy.attributes one ks kt (record { class = pattern.class; index = index })) lesson.policy.nevers at pattern is parts.0))

-- what is learned teaches what was denied, and nothing else
pub teaches : (lesson : Lesson) → IsWholePolicy lesson.policy → (version : ℕ) → version < length lesson.policy.versions → Teaches lesson version (appended lesson.policy version (grants Allow lesson))
teaches lesson kept version within = record {
  vectors = λ s t class hs ht. same_from_has _ _ (λ index.
      has_then lesson kept version within s t class index hs ht
      ∙ sym (has-or (vector_of lesson.policy version (kind_at lesson.policy s) (kind_at lesson.policy t) class) (learned_vector Allow lesson (kind_at lesson.policy s) (kind_at lesson.policy t) class) index));
  others = λ other apart. appended_other lesson.policy version other (grants Allow lesson) apart;
  labels = label_same lesson.policy version (grants Allow lesson);
  members = member_same lesson.policy version (grants Allow lesson);
  nevers = never_same lesson kept version within;
}

-- a permission that passes, where the vector is not empty
record Passes (test : ℕ → Bool) : Type 0 where
  index : ℕ
  passes : test index ≡ true

where_some : (n : ℕ) (test : ℕ → Bool) → vector_where n test ≢ 0 → Passes test
unfolding vector_where
where_some zero test some = absurd (some refl)
where_some (suc n) test some = by_last (test n) refl some (where_some n test)
  where
    by_last : (b : Bool) → test n ≡ b → cond b (with_index (vector_where n test) n) (vector_where n test) ≢ 0 → (vector_where n test ≢ 0 → Passes test) → Passes test
    by_last true is some further = record { index = n; passes = is }
    by_last false is some further = further some

some_learned : (list : GrantKind) (lesson : Lesson) (s t : List ℕ) (class : Class) → learned_vector list lesson s t class ≢ 0 → Passes (λ index. is_learned list lesson s t (record { class = class; index = index }))
unfolding learned_vector
some_learned list lesson s t class some = where_some (perm_count class) _ some

same_perm : (a b : Permission) → a.class ≡ b.class → a.index ≡ b.index → a ≡ b
same_perm a b class index = perm_by class ∙ ap index_by index
  where
    index_by : ℕ → Permission
    index_by at = record { class = b.class; index = at }

    perm_by : a.class ≡ b.class → a ≡ index_by a.index
    perm_by same = rw (← same) refl

-- a denial by its parts
record Denies (contexts : List (ContextOf (List ℕ))) (s t : List ℕ) (perm : Permission) (asked : Asked) : Type 0 where
  answer : asked.yes ≡ false
  source : source_of contexts asked ≡ s
  target : target_of contexts asked ≡ t
  about : asked.perm ≡ perm

denial_parts : (contexts : List (ContextOf (List ℕ))) (s t : List ℕ) (perm : Permission) (asked : Asked) → is_denial_of contexts s t perm asked ≡ true → Denies contexts s t perm asked
unfolding is_denial_of
denial_parts contexts s t perm asked is =
    let parts = and_parts (not asked.yes) (is_between contexts s t asked && is_about perm asked) is in
    let both = and_parts (is_between contexts s t asked) (is_about perm asked) parts.1 in
    let names = and_parts _ _ both.0 in
    let about = and_parts _ _ both.1 in
    let class : asked.perm.class ≡ perm.class = same_class asked.perm.class perm.class about.0 in
    let index : asked.perm.index ≡ perm.index = eqb-true asked.perm.index perm.index about.1 in
    record { answer = un_not asked.yes parts.0; source = same_name _ _ names.0; target = same_name _ _ names.1; about = same_perm asked.perm perm class index }
  where
    un_not : (b : Bool) → not b ≡ true → b ≡ false
    un_not false h = refl
    un_not true h = absurd (false≢true h)

each_both : {X : Type 0} (P Q : X → Type 0) (xs : List X) → Each P xs → Each Q xs → Each (λ x. P x × Q x) xs
each_both P Q [] h k = tt
each_both P Q (x ∷ xs) h k = ((h.0, k.0), each_both P Q xs h.1 k.1)

-- a grant for other types or another class does not grant what this one does
other_grants : (lesson : Lesson) → IsWholePolicy lesson.policy → (grant other : Grant) (index : ℕ) → IsLearned Allow lesson grant → IsLearned Allow lesson other → key_of other ≢ key_of grant
    → (is_for lesson.policy (kind_at lesson.policy grant.s) (kind_at lesson.policy grant.t) grant.class other && has other.perms index) ≡ false
other_grants lesson kept grant other index is others apart = by_passes _ refl
  where
    by_passes : (b : Bool) → (is_for lesson.policy (kind_at lesson.policy grant.s) (kind_at lesson.policy grant.t) grant.class other && has other.perms index) ≡ b → b ≡ false
    by_passes false same = refl
    by_passes true same =
        let parts = and_parts _ _ same in
        let names = and_parts _ _ parts.0 in
        let rest = and_parts _ _ names.1 in
        let from : other.s ≡ grant.s = kinds_apart lesson.policy kept other.s grant.s others.source is.source (same_name _ _ names.0) in
        let to : other.t ≡ grant.t = kinds_apart lesson.policy kept other.t grant.t others.target is.target (same_name _ _ rest.0) in
        let of : other.class ≡ grant.class = same_class other.class grant.class rest.1 in
        absurd (apart (rw (from, to, of) refl))

-- no grant can be spared
pub least : (lesson : Lesson) → IsWholePolicy lesson.policy → (version : ℕ) → version < length lesson.policy.versions → AreLeast lesson version (grants Allow lesson)
unfolding is_denied
least lesson kept version within denials front back grant is =
    let all : Each (IsLearned Allow lesson) (front ++ grant ∷ back) = subst (Each (IsLearned Allow lesson)) is (each_learned Allow lesson) in
    let behind : Each (IsLearned Allow lesson) (grant ∷ back) = each_back (IsLearned Allow lesson) front (grant ∷ back) all in
    let own : IsLearned Allow lesson grant = behind.0 in
    let others : Each (IsLearned Allow lesson) (front ++ back) = each_append (IsLearned Allow lesson) front back (each_front (IsLearned Allow lesson) front (grant ∷ back) all) behind.1 in
    let apart : Each (λ other. key_of other ≢ key_of grant) (front ++ back) = others_apart front back grant (subst Apart is (grants_apart Allow lesson (kinds_few lesson.policy kept))) in
    let ks : List ℕ = kind_at lesson.policy grant.s in
    let kt : List ℕ = kind_at lesson.policy grant.t in
    let some = some_learned Allow lesson ks kt grant.class (λ none. own.some (own.perms ∙ none)) in
    let perm : Permission = record { class = grant.class; index = some.index } in
    let parts = free_of lesson ks kt perm some.passes in
    let found : Found (is_denial_of lesson.contexts ks kt perm) lesson.asked = find_at (is_denial_of lesson.contexts ks kt perm) lesson.asked parts.0 in
    let denies : Denies lesson.contexts ks kt perm found.member = denial_parts lesson.contexts ks kt perm found.member found.passes in
    let ungranted : is_granted lesson.policy ks kt grant.class some.index (front ++ back) ≡ false =
    none_passes _ (front ++ back) (each_more _ _ (λ other both. other_grants lesson kept grant other some.index own both.0 both.1) (front ++ back) (each_both (IsLearned Allow lesson) (λ other. key_of other ≢ key_of grant) (front ++ back) others apart)) in
    let before : has (vector_of lesson.policy version ks kt grant.class) some.index ≡ false = rw (denies.source, denies.target, denies.about) at (denials found.at found.member found.is_at denies.answer) in
    let after : has (vector_of (appended lesson.policy version (front ++ back)) version ks kt grant.class) some.index ≡ false =
    appended_has lesson.policy kept version within (front ++ back) (inside_of Allow lesson (front ++ back) others) ks kt grant.class some.index ∙ rw (before, ungranted) refl in
    record { at = found.at; asked = found.member; is_asked = found.is_at; denied = denies.answer; free = rw (denies.source, denies.target, denies.about) parts.1; missing = rw (denies.source, denies.target, denies.about) after }
