-- What cells have after a permission is put into one of them, and what of the questions they tell.
use Rattle.std.proofs.Common.{◌≡◌, ◌∙◌, ℕ, zero, suc, ◌+◌, ◌*◌, ◌<◌, ◌≤◌, Bool, true, false, cond, not, eqb, ltb, List, [], ◌∷◌, length, get_or, take, Option, Some, None, refl, sym, ap, subst, arith, inl, inr}
use Rattle.std.specs.Prelude.{◌&&◌, ◌||◌, ◌==◌, nat_lt, unwrap_or, if◌then◌else◌}
use Rattle.std.specs.List.{list_any, position, position_or_len}
use Rattle.std.specs.Map.{lookup}
use Rattle.std.specs.BTreeMap.{is_at}
use Rattle.std.specs.Cmp.{unsigned_tied}
use Rattle.std.specs.Ordering.{nat_cmp}
use Rattle.std.specs.Str.{bytes_eq}
use Rattle.std.proofs.lemmas.Bool.{cases_eq, eq-eqb, ne_eqb, eqb-true, false≢true}
use Rattle.std.proofs.lemmas.Bool.Decides.{nat_tests}
use Rattle.std.proofs.lemmas.List.Quantifiers.{position-Some}
use Rattle.flask_sid.specs.declared.context.ContextOf.{ContextOf}
use Rattle.access_vectors.specs.declared.asked.Asked.{Asked}
use Rattle.access_vectors.specs.declared.class.Class.{Class}
use Rattle.access_vectors.specs.declared.class.Class.TheVariants.{File, Dir, Process, Port, Security}
use Rattle.access_vectors.specs.Table.{Permission, code_of}
use Rattle.access_vectors.specs.Vectors.{has, with_index}
use Rattle.access_vectors.proofs.Members.{has-with_same, has-with_other}
use Rattle.policy_model.specs.declared.policy.KindLine.{KindLine}
use Rattle.policy_model.specs.declared.policy.PolicyParts.{PolicyParts}
use Rattle.policy_model.specs.Declarations.{is_kind}
use Rattle.policy_model.specs.Kept.{IsWholePolicy}
use Rattle.policy_versions.specs.Kinds.{IsPlaceOf}
use Rattle.policy_versions.specs.Places.{name_at, kind_at}
use Rattle.policy_versions.proofs.KindLemmas.{same_name, name_same, no_kind, kinds_apart, kinds_few}
use Rattle.audit_allow.specs.Denials.{source_of, target_of, is_about, is_between}
use Rattle.audit_allow.specs.Cells.{cell_key, vector_at}

-- the first place that passes, where some element does
first_place : {X : Type 0} (p : X → Bool) (xs : List X) → list_any p xs ≡ true → position_or_len p xs < length xs
first_place p [] some = cc
first_place p (x ∷ xs) some = grind (arith, nat_tests, first_place p xs)

-- a declared type stands at the place that is found for its name
pub placed : (kinds : List KindLine) (name : List ℕ) (place : ℕ) → position (λ kind. bytes_eq kind.name name) kinds ≡ Some place → IsPlaceOf kinds name place
placed kinds name place found =
    let parts = position-Some (λ kind. bytes_eq kind.name name) kinds place no_kind found in
    record { within = parts.0; named = same_name _ _ parts.1 }

-- and where none is found the name is no type's
pub unplaced : (kinds : List KindLine) (name : List ℕ) → position (λ kind. bytes_eq kind.name name) kinds ≡ None → is_kind kinds name ≡ false
unfolding is_kind
unplaced kinds name none = by_any (list_any test kinds) refl
  where
    test : KindLine → Bool
    test kind = bytes_eq kind.name name

    by_any : (b : Bool) → list_any test kinds ≡ b → b ≡ false
    by_any false is = refl
    by_any true is = let within : position_or_len test kinds < length kinds = first_place test kinds is in absurd (grind (arith, nat_tests))

-- a name is that of the type at its place alone
pub same_place : (policy : PolicyParts) → IsWholePolicy policy → (name : List ℕ) (place other : ℕ) → IsPlaceOf policy.kinds name place → other < length policy.kinds → bytes_eq name (kind_at policy other) ≡ eqb place other
same_place policy kept name place other is within = elim (cases_eq place other) [
  | inl same ↦ name_same name (kind_at policy other) (sym is.named ∙ ap (kind_at policy) same) ∙ sym (eq-eqb place other same)
  | inr apart ↦ by_eq (bytes_eq name (kind_at policy other)) refl apart
]
  where
    by_eq : (b : Bool) → bytes_eq name (kind_at policy other) ≡ b → (place ≡ other → ⊥) → b ≡ eqb place other
    by_eq false is_not apart = sym (ne_eqb place other apart)
    by_eq true same apart = absurd (apart (kinds_apart policy kept place other is.within within (is.named ∙ same_name name (kind_at policy other) same)))

or_left : (a b : Bool) → (a || b) ≡ false → a ≡ false
or_left false b h = refl
or_left true b h = h

or_right : (a b : Bool) → (a || b) ≡ false → b ≡ false
or_right false b h = h
or_right true b h = absurd (false≢true (sym h))

-- two names that differ, in either order
bytes_swap : (a b : List ℕ) → bytes_eq b a ≡ false → bytes_eq a b ≡ false
bytes_swap a b apart = by_eq (bytes_eq a b) refl
  where
    by_eq : (e : Bool) → bytes_eq a b ≡ e → e ≡ false
    by_eq false is = refl
    by_eq true is = absurd (false≢true (sym apart ∙ name_same b a (sym (same_name a b is))))

-- a test that no element passes
list_any_none : {X : Type 0} (p : X → Bool) (xs : List X) (at : ℕ) (d : X) → list_any p xs ≡ false → at < length xs → p (get_or xs at d) ≡ false
list_any_none p [] at d none within = absurd (omega arith)
list_any_none p (x ∷ xs) zero d none within = or_left (p x) (list_any p xs) none
list_any_none p (x ∷ xs) (suc at) d none within = list_any_none p xs at d (or_right (p x) (list_any p xs) none) (omega arith)

-- and a name that is no type's is that of no place
pub no_place : (policy : PolicyParts) (name : List ℕ) (other : ℕ) → is_kind policy.kinds name ≡ false → other < length policy.kinds → bytes_eq name (kind_at policy other) ≡ false
unfolding is_kind
no_place policy name other none within = bytes_swap name (kind_at policy other) (list_any_none (λ kind. bytes_eq kind.name name) policy.kinds other no_kind none within)

-- the cells after a permission was put into one
pub put_changed : (old new : List (ℕ × ℕ)) (key vector index : ℕ)
    → ((q : ℕ) → lookup (is_at (nat_cmp q)) new ≡ cond (is_at (nat_cmp key) q) (Some vector) (lookup (is_at (nat_cmp q)) old))
    → vector ≡ with_index (vector_at old key) index
    → (other : ℕ) → vector_at new other ≡ (if other == key then with_index (vector_at old other) index else vector_at old other)
unfolding vector_at
put_changed old new key vector index put is other =
    ap (λ o. unwrap_or o 0) (put other ∙ ap (λ b. cond b (Some vector) (lookup (is_at (nat_cmp other)) old)) (unsigned_tied key other))
    ∙ elim (cases_eq other key) [
      | inl same ↦ rw (same, eq-eqb key key refl) is
      | inr apart ↦ rw (ne_eqb other key apart, ne_eqb key other (λ same. apart (sym same))) refl
    ]

-- the codes of classes are few
pub code_few : (class : Class) → code_of class < 8
code_few File = omega arith
code_few Dir = omega arith
code_few Process = omega arith
code_few Port = omega arith
code_few Security = omega arith

-- two cells are one where their types and their classes are
pub same_cell : (s t s' t' : ℕ) (class class' : Class) → s < 128 → t < 128 → s' < 128 → t' < 128
    → eqb (cell_key s t class) (cell_key s' t' class') ≡ ((eqb s' s && eqb t' t) && eqb (code_of class') (code_of class))
same_cell s t s' t' class class' hs ht hs' ht' =
    let few = code_few class in
    let few' = code_few class' in
    grind (arith, nat_tests)

-- a vector with a permission besides
pub has-with : (bits index other : ℕ) → has (with_index bits index) other ≡ (eqb index other || has bits other)
has-with bits index other = elim (cases_eq other index) [
  | inl same ↦ rw (same, eq-eqb index index refl) (has-with_same bits index)
  | inr apart ↦ has-with_other bits index other apart ∙ ap (λ b. b || has bits other) (sym (ne_eqb index other (λ same. apart (sym same))))
]

-- a permission that a question asked for stands in its cell besides what stood there, and no other does
pub put_asked : (policy : PolicyParts) → IsWholePolicy policy → (contexts : List (ContextOf (List ℕ))) (asked : Asked) (old new : List (ℕ × ℕ)) (source target : ℕ)
    → IsPlaceOf policy.kinds (source_of contexts asked) source → IsPlaceOf policy.kinds (target_of contexts asked) target
    → ((key : ℕ) → vector_at new key ≡ (if key == cell_key source target asked.perm.class then with_index (vector_at old key) asked.perm.index else vector_at old key))
    → (s t : ℕ) (perm : Permission) → s < length policy.kinds → t < length policy.kinds
    → has (vector_at new (cell_key s t perm.class)) perm.index
    ≡ ((is_between contexts (kind_at policy s) (kind_at policy t) asked && is_about perm asked) || has (vector_at old (cell_key s t perm.class)) perm.index)
put_asked policy kept contexts asked old new source target from to put s t perm hs ht =
    let few : length policy.kinds ≤ 128 = kinds_few policy kept in
    let within : source < length policy.kinds = from.within in
    let within' : target < length policy.kinds = to.within in
    let cell = same_cell s t source target perm.class asked.perm.class (omega arith) (omega arith) (omega arith) (omega arith) in
    let from_is = same_place policy kept (source_of contexts asked) source s from hs in
    let to_is = same_place policy kept (target_of contexts asked) target t to ht in
    rw (from_is, to_is) (ap (λ vector. has vector perm.index) (put (cell_key s t perm.class))
    ∙ ap (λ b. has (cond b (with_index (vector_at old (cell_key s t perm.class)) asked.perm.index) (vector_at old (cell_key s t perm.class))) perm.index) cell
    ∙ by_cell (vector_at old (cell_key s t perm.class)) (eqb source s && eqb target t) (eqb (code_of asked.perm.class) (code_of perm.class)))
  where
    by_cell : (vector : ℕ) (places classes : Bool) → has (cond (places && classes) (with_index vector asked.perm.index) vector) perm.index ≡ ((places && (classes && eqb asked.perm.index perm.index)) || has vector perm.index)
    by_cell vector true true = has-with vector asked.perm.index perm.index
    by_cell vector true false = refl
    by_cell vector false classes = refl

-- a question of a type that is not declared is about none of the declared ones
pub none_between : (policy : PolicyParts) (contexts : List (ContextOf (List ℕ))) (asked : Asked) (s t : ℕ) (perm : Permission) (had : Bool)
    → s < length policy.kinds → is_kind policy.kinds (source_of contexts asked) ≡ false
    → had ≡ ((is_between contexts (kind_at policy s) (kind_at policy t) asked && is_about perm asked) || had)
none_between policy contexts asked s t perm had hs none = rw (no_place policy (source_of contexts asked) s none hs) refl

pub none_between_target : (policy : PolicyParts) (contexts : List (ContextOf (List ℕ))) (asked : Asked) (s t : ℕ) (perm : Permission) (had : Bool)
    → t < length policy.kinds → is_kind policy.kinds (target_of contexts asked) ≡ false
    → had ≡ ((is_between contexts (kind_at policy s) (kind_at policy t) asked && is_about perm asked) || had)
none_between_target policy contexts asked s t perm had ht none =
    rw (no_place policy (target_of contexts asked) t none ht) (elim (bytes_eq (source_of contexts asked) (kind_at policy s)) as (λ b. had ≡ (((b && false) && is_about perm asked) || had)) [ true ↦ refl | false ↦ refl ])
