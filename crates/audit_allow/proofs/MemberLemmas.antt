-- What holds of each grant that is learned, and that no two are for the same types and class.
use Rattle.std.proofs.Common.{◌≡◌, ◌≢◌, ◌∙◌, ◌+◌, ◌*◌, ◌<◌, ◌≤◌, ℕ, zero, suc, Bool, true, false, cond, not, eqb, List, [], ◌∷◌, ◌++◌, length, get_or, refl, sym, ap, subst, arith, ⊎_elim}
use Rattle.std.specs.Prelude.{◌&&◌, ◌||◌, ◌==◌, if◌then◌else◌}
use Rattle.std.specs.List.{list_any, flat_map}
use Rattle.std.proofs.lemmas.Bool.{false≢true, eq-eqb, cases_eq}
use Rattle.std.proofs.lemmas.List.Folds.{list_any-append}
use Rattle.access_vectors.specs.declared.class.Class.{Class}
use Rattle.access_vectors.specs.declared.class.Class.TheVariants.{File, Dir, Process, Port, Security}
use Rattle.access_vectors.specs.Table.{classes, code_of}
use Rattle.policy_versions.specs.Places.{kind_at}
use Rattle.audit_allow.specs.declared.grant.Grant.{Grant}
use Rattle.audit_allow.specs.declared.grant.GrantKind.{GrantKind}
use Rattle.audit_allow.specs.Cells.{cell_key}
use Rattle.audit_allow.specs.Denials.{Lesson}
use Rattle.audit_allow.specs.Grants.{joined_below, grant_of, grants_of, grants_between, grants_from, grants, learned_vector}
use Rattle.audit_allow.proofs.CellLemmas.{code_few}

-- something holds of each member
abbrev pub Each : {X : Type 0} → (X → Type 0) → List X → Type 0
Each P [] = Unit {0}
Each P (x ∷ xs) = P x × Each P xs

pub each_append : {X : Type 0} (P : X → Type 0) (xs ys : List X) → Each P xs → Each P ys → Each P (xs ++ ys)
each_append P [] ys h k = k
each_append P (x ∷ xs) ys h k = (h.0, each_append P xs ys h.1 k)

pub each_more : {X : Type 0} (P Q : X → Type 0) → ((x : X) → P x → Q x) → (xs : List X) → Each P xs → Each Q xs
each_more P Q more [] h = tt
each_more P Q more (x ∷ xs) h = (more x h.0, each_more P Q more xs h.1)

pub each_front : {X : Type 0} (P : X → Type 0) (xs ys : List X) → Each P (xs ++ ys) → Each P xs
each_front P [] ys h = tt
each_front P (x ∷ xs) ys h = (h.0, each_front P xs ys h.1)

pub each_back : {X : Type 0} (P : X → Type 0) (xs ys : List X) → Each P (xs ++ ys) → Each P ys
each_back P [] ys h = h
each_back P (x ∷ xs) ys h = each_back P xs ys h.1

-- a test that fails for each member
pub none_passes : {X : Type 0} (p : X → Bool) (xs : List X) → Each (λ x. p x ≡ false) xs → list_any p xs ≡ false
none_passes p [] h = refl
none_passes p (x ∷ xs) h = rw h.0 (none_passes p xs h.1)

-- the key of a grant's cell
abbrev pub key_of : Grant → ℕ
key_of grant = cell_key grant.s grant.t grant.class

-- no two grants of a list have one key
abbrev pub Apart : List Grant → Type 0
Apart [] = Unit {0}
Apart (grant ∷ others) = Each (λ other. key_of other ≢ key_of grant) others × Apart others

-- keys from one number up to another, and no two the same
pub record Span (low high : ℕ) (list : List Grant) : Type 0 where
  pub from : Each (λ grant. low ≤ key_of grant) list
  pub below : Each (λ grant. key_of grant < high) list
  pub apart : Apart list

apart_append : (middle : ℕ) (xs ys : List Grant) → Apart xs → Apart ys → Each (λ grant. key_of grant < middle) xs → Each (λ grant. middle ≤ key_of grant) ys → Apart (xs ++ ys)
apart_append middle [] ys h k below from = k
apart_append middle (x ∷ xs) ys h k below from =
    let under : key_of x < middle = below.0 in (
      each_append (λ other. key_of other ≢ key_of x) xs ys h.0 (each_more (λ grant. middle ≤ key_of grant) (λ other. key_of other ≢ key_of x) (λ other high same. omega (arith, under, high, same)) ys from),
      apart_append middle xs ys h.1 k below.1 from,
    )

span_append : (low middle high : ℕ) (xs ys : List Grant) → low ≤ middle → middle ≤ high → Span low middle xs → Span middle high ys → Span low high (xs ++ ys)
span_append low middle high xs ys lm mh front back = record {
  from = each_append (λ grant. low ≤ key_of grant) xs ys front.from (each_more (λ grant. middle ≤ key_of grant) (λ grant. low ≤ key_of grant) (λ grant h. omega (arith, lm, h)) ys back.from);
  below = each_append (λ grant. key_of grant < high) xs ys (each_more (λ grant. key_of grant < middle) (λ grant. key_of grant < high) (λ grant h. omega (arith, mh, h)) xs front.below) back.below;
  apart = apart_append middle xs ys front.apart back.apart front.below back.from;
}

span_wide : (low high low' high' : ℕ) (xs : List Grant) → low' ≤ low → high ≤ high' → Span low high xs → Span low' high' xs
span_wide low high low' high' xs less more span = record {
  from = each_more (λ grant. low ≤ key_of grant) (λ grant. low' ≤ key_of grant) (λ grant h. omega (arith, less, h)) xs span.from;
  below = each_more (λ grant. key_of grant < high) (λ grant. key_of grant < high') (λ grant h. omega (arith, more, h)) xs span.below;
  apart = span.apart;
}

grant_span : (s t : ℕ) (class : Class) (perms : ℕ) → Span (cell_key s t class) (cell_key s t class + 1) (grant_of s t class perms)
grant_span s t class perms = by_empty (eqb perms 0)
  where
    by_empty : (b : Bool) → Span (cell_key s t class) (cell_key s t class + 1) (if b then [] else record { s = s; t = t; class = class; perms = perms } ∷ [])
    by_empty true = record { from = tt; below = tt; apart = tt }
    by_empty false = record { from = (omega arith, tt); below = (omega arith, tt); apart = (tt, tt) }

between_span : (list : GrantKind) (lesson : Lesson) (s t : ℕ) → Span (1024 * s + 8 * t) (1024 * s + 8 * t + 8) (grants_between list lesson s t)
between_span list lesson s t =
    let base : ℕ = 1024 * s + 8 * t in
    let of : Class → List Grant = grants_of list lesson s t in
    let span = λ (class : Class). grant_span s t class (learned_vector list lesson (kind_at lesson.policy s) (kind_at lesson.policy t) class) in
    let none : Span (base + 6) (base + 6) [] = record { from = tt; below = tt; apart = tt } in
    let e : Span (base + 5) (base + 6) (of Security ++ []) = span_append (base + 5) (base + 6) (base + 6) (of Security) [] (omega arith) (omega arith) (span_wide _ _ _ _ (of Security) (omega arith) (omega arith) (span Security)) none in
    let d : Span (base + 4) (base + 6) (of Port ++ (of Security ++ [])) = span_append (base + 4) (base + 5) (base + 6) (of Port) _ (omega arith) (omega arith) (span_wide _ _ _ _ (of Port) (omega arith) (omega arith) (span Port)) e in
    let c : Span (base + 3) (base + 6) (of Process ++ (of Port ++ (of Security ++ []))) = span_append (base + 3) (base + 4) (base + 6) (of Process) _ (omega arith) (omega arith) (span_wide _ _ _ _ (of Process) (omega arith) (omega arith) (span Process)) d in
    let b : Span (base + 2) (base + 6) (of Dir ++ (of Process ++ (of Port ++ (of Security ++ [])))) = span_append (base + 2) (base + 3) (base + 6) (of Dir) _ (omega arith) (omega arith) (span_wide _ _ _ _ (of Dir) (omega arith) (omega arith) (span Dir)) c in
    let a : Span (base + 1) (base + 6) (of File ++ (of Dir ++ (of Process ++ (of Port ++ (of Security ++ []))))) = span_append (base + 1) (base + 2) (base + 6) (of File) _ (omega arith) (omega arith) (span_wide _ _ _ _ (of File) (omega arith) (omega arith) (span File)) b in
    span_wide (base + 1) (base + 6) base (base + 8) _ (omega arith) (omega arith) a

from_span : (list : GrantKind) (lesson : Lesson) (s n : ℕ) → Span (1024 * s) (1024 * s + 8 * n) (joined_below n (grants_between list lesson s))
unfolding joined_below
from_span list lesson s zero = record { from = tt; below = tt; apart = tt }
from_span list lesson s (suc n) =
    span_append (1024 * s) (1024 * s + 8 * n) (1024 * s + 8 * suc n) _ _ (omega arith) (omega arith) (from_span list lesson s n)
    (span_wide (1024 * s + 8 * n) (1024 * s + 8 * n + 8) (1024 * s + 8 * n) (1024 * s + 8 * suc n) _ (omega arith) (omega arith) (between_span list lesson s n))

all_span : (list : GrantKind) (lesson : Lesson) (n : ℕ) → length lesson.policy.kinds ≤ 128 → Span 0 (1024 * n) (joined_below n (grants_from list lesson))
unfolding joined_below
all_span list lesson zero few = record { from = tt; below = tt; apart = tt }
all_span list lesson (suc n) few =
    span_append 0 (1024 * n) (1024 * suc n) _ _ (omega arith) (omega arith) (all_span list lesson n few)
    (span_wide (1024 * n) (1024 * n + 8 * length lesson.policy.kinds) (1024 * n) (1024 * suc n) _ (omega arith) (omega (arith, few)) (from_span list lesson n (length lesson.policy.kinds)))

-- no two grants that are learned are for the same types and class
pub grants_apart : (list : GrantKind) (lesson : Lesson) → length lesson.policy.kinds ≤ 128 → Apart (grants list lesson)
unfolding grants
grants_apart list lesson few = (all_span list lesson (length lesson.policy.kinds) few).apart

-- so all but one have other keys than that one
pub others_apart : (front back : List Grant) (grant : Grant) → Apart (front ++ grant ∷ back) → Each (λ other. key_of other ≢ key_of grant) (front ++ back)
others_apart [] back grant h = h.0
others_apart (x ∷ front) back grant h =
    let apart : Each (λ other. key_of other ≢ key_of x) (grant ∷ back) = each_back (λ other. key_of other ≢ key_of x) front (grant ∷ back) h.0 in
    ((λ same. apart.0 (sym same)), others_apart front back grant h.1)

-- a grant is of types that are declared, and has the permissions that are learned for them, of which there are some
pub record IsLearned (list : GrantKind) (lesson : Lesson) (grant : Grant) : Type 0 where
  pub source : grant.s < length lesson.policy.kinds
  pub target : grant.t < length lesson.policy.kinds
  pub perms : grant.perms ≡ learned_vector list lesson (kind_at lesson.policy grant.s) (kind_at lesson.policy grant.t) grant.class
  pub some : grant.perms ≢ 0

each_joined : {X : Type 0} (P : X → Type 0) (n : ℕ) (list : ℕ → List X) → ((i : ℕ) → i < n → Each P (list i)) → Each P (joined_below n list)
unfolding joined_below
each_joined P zero list h = tt
each_joined P (suc n) list h = each_append P (joined_below n list) (list n) (each_joined P n list (λ i below. h i (omega (arith, below)))) (h n (omega arith))

each_class : {X : Type 0} (P : X → Type 0) (list : Class → List X) (some : List Class) → ((class : Class) → Each P (list class)) → Each P (flat_map list some)
each_class P list [] h = tt
each_class P list (class ∷ some) h = each_append P (list class) (flat_map list some) (h class) (each_class P list some h)

each_of : (list : GrantKind) (lesson : Lesson) (s t : ℕ) (class : Class) → s < length lesson.policy.kinds → t < length lesson.policy.kinds → Each (IsLearned list lesson) (grants_of list lesson s t class)
each_of list lesson s t class hs ht = by_empty (eqb perms 0) refl
  where
    perms : ℕ
    perms = learned_vector list lesson (kind_at lesson.policy s) (kind_at lesson.policy t) class

    by_empty : (b : Bool) → eqb perms 0 ≡ b → Each (IsLearned list lesson) (if b then [] else record { s = s; t = t; class = class; perms = perms } ∷ [])
    by_empty true is = tt
    by_empty false is = (record { source = hs; target = ht; perms = refl; some = λ none. false≢true (sym is ∙ eq-eqb perms 0 none) }, tt)

-- this holds of each grant
pub each_learned : (list : GrantKind) (lesson : Lesson) → Each (IsLearned list lesson) (grants list lesson)
unfolding grants
each_learned list lesson =
    each_joined (IsLearned list lesson) (length lesson.policy.kinds) (grants_from list lesson) (λ s hs.
    each_joined (IsLearned list lesson) (length lesson.policy.kinds) (grants_between list lesson s) (λ t ht.
    each_class (IsLearned list lesson) (grants_of list lesson s t) classes (λ class. each_of list lesson s t class hs ht)))

or_true : (b : Bool) → (b || true) ≡ true
or_true true = refl
or_true false = refl

any_joined : {X : Type 0} (p : X → Bool) (n i : ℕ) (list : ℕ → List X) → i < n → list_any p (list i) ≡ true → list_any p (joined_below n list) ≡ true
unfolding joined_below
any_joined p zero i list below some = absurd (omega (arith, below))
any_joined p (suc n) i list below some =
    list_any-append p (joined_below n list) (list n)
    ∙ ⊎_elim
    (λ same. ap (λ b. list_any p (joined_below n list) || b) (ap (λ k. list_any p (list k)) (sym same) ∙ some) ∙ or_true (list_any p (joined_below n list)))
    (λ apart. ap (λ b. b || list_any p (list n)) (any_joined p n i list (omega (arith, below, apart)) some))
    (cases_eq i n)

any_flat : {X : Type 0} (p : X → Bool) (list : Class → List X) (of : List Class) (at : ℕ) → at < length of → list_any p (list (get_or of at File)) ≡ true → list_any p (flat_map list of) ≡ true
any_flat p list [] at below some = absurd (omega (arith, below))
any_flat p list (class ∷ of) zero below some = list_any-append p (list class) (flat_map list of) ∙ ap (λ b. b || list_any p (flat_map list of)) some
any_flat p list (class ∷ of) (suc at) below some =
    list_any-append p (list class) (flat_map list of) ∙ ap (λ b. list_any p (list class) || b) (any_flat p list of at (omega (arith, below)) some) ∙ or_true (list_any p (list class))

any_class : {X : Type 0} (p : X → Bool) (list : Class → List X) (class : Class) → list_any p (list class) ≡ true → list_any p (flat_map list classes) ≡ true
any_class p list File some = any_flat p list classes 0 (omega arith) some
any_class p list Dir some = any_flat p list classes 1 (omega arith) some
any_class p list Process some = any_flat p list classes 2 (omega arith) some
any_class p list Port some = any_flat p list classes 3 (omega arith) some
any_class p list Security some = any_flat p list classes 4 (omega arith) some

-- and types and a class for which some permission is learned have their grant
pub any_learned : (p : Grant → Bool) (list : GrantKind) (lesson : Lesson) (s t : ℕ) (class : Class) → s < length lesson.policy.kinds → t < length lesson.policy.kinds
    → list_any p (grants_of list lesson s t class) ≡ true → list_any p (grants list lesson) ≡ true
unfolding grants
any_learned p list lesson s t class hs ht some =
    any_joined p (length lesson.policy.kinds) s (grants_from list lesson) hs
    (any_joined p (length lesson.policy.kinds) t (grants_between list lesson s) ht
    (any_class p (grants_of list lesson s t) class some))
