-- Types by their places, and look-ups by name.
use Rattle.std.proofs.Common.{◌≡◌, ◌∙◌, ℕ, ◌+◌, ◌<◌, ◌≤◌, Bool, true, false, cond, ltb, List, [], ◌∷◌, ◌++◌, length, get_or, take, Option, Some, None, refl, sym, ap, subst, arith, ⊎_elim}
use Rattle.std.specs.Prelude.{◌||◌, ◌&&◌, ◌==◌, slice_get, MatchOption}
use Rattle.std.specs.List.{list_any}
use Rattle.std.specs.Str.{bytes_eq}
use Rattle.std.proofs.lemmas.Bool.{false≢true, or_from, or_parts, and_left, false_from_ne_true, cases_order, cases_eq, eq-eqb, ne_eqb, lt-ltb, le-ltb}
use Rattle.std.proofs.lemmas.List.{get_or-take, get_or_read, length-take-le, take_all}
use Rattle.std.proofs.lemmas.Option.{slice_get_within, get_or_from_slice_get}
use Rattle.std.proofs.lemmas.List.Elements.{All-get_or, All-push}
use Rattle.std.proofs.lemmas.List.Folds.{list_any_more, list_any_at}
use Rattle.std.proofs.lemmas.Slice.Eq.{bytes_eq-Decides}
use Rattle.policy_model.specs.declared.policy.KindLine.{KindLine}
use Rattle.policy_model.specs.declared.policy.AttributeLine.{AttributeLine}
use Rattle.policy_model.specs.declared.policy.PolicyParts.{PolicyParts}
use Rattle.policy_model.specs.Declarations.{is_kind, is_attribute}
use Rattle.policy_model.specs.Kept.{Grows, IsWholePolicy, MayKind}
use Rattle.policy_model.specs.Matching.{is_in, means}
use Rattle.policy_versions.specs.declared.kind_set.KindSet.{KindSet}
use Rattle.policy_versions.specs.Places.{name_at, kind_at}
use Rattle.policy_versions.specs.declared.named_sets.NamedSet.{NamedSet}
use Rattle.policy_versions.specs.Kinds.{AreNamed, IsPlaceOf, ArePlaces, IsSetOf, IsUndeclared, AreSets, AreApart}
use Rattle.policy_versions.proofs.RowLemmas.{next_below}
use Rattle.policy_versions.proofs.GrowsLemmas.{grows_at, grows_few}

-- names that are compared
pub same_name : (a b : List ℕ) → bytes_eq a b ≡ true → a ≡ b
same_name a b h = (bytes_eq-Decides a b).0 h

pub name_same : (a b : List ℕ) → a ≡ b → bytes_eq a b ≡ true
name_same a b h = (bytes_eq-Decides a b).1 h

-- a policy has at most 128 types
pub kinds_few : (policy : PolicyParts) → IsWholePolicy policy → length policy.kinds ≤ 128
kinds_few policy kept = omega (arith, grows_few MayKind 128 (λ seen kind may. may.few) [] policy.kinds (omega arith) kept.grown.kinds)

-- no line of that kind
abbrev pub no_kind : KindLine
no_kind = record { line = 0; name = [] }

-- a later type has another name
later_differs : (kinds : List KindLine) → Grows MayKind [] kinds → (s t : ℕ) → s < t → t < length kinds → name_at kinds s ≡ name_at kinds t → ⊥
unfolding is_kind
later_differs kinds g s t before within same =
    let may : MayKind (take t kinds) (get_or kinds t no_kind) = grows_at MayKind [] kinds g t no_kind within in
    let size : length (take t kinds) ≡ t = length-take-le t kinds (omega arith) in
    let here : get_or (take t kinds) s no_kind ≡ get_or kinds s no_kind = get_or-take t kinds s no_kind before in
    let there : list_any (λ kind. bytes_eq kind.name (name_at kinds t)) (take t kinds) ≡ true = list_any_at (λ kind. bytes_eq kind.name (name_at kinds t)) (take t kinds) s no_kind (omega arith) (name_same _ _ (ap (λ (k : KindLine). k.name) here ∙ same)) in
    false≢true (sym may.new ∙ there)

-- no two types have one name
pub kinds_apart : (policy : PolicyParts) → IsWholePolicy policy → AreApart policy.kinds
kinds_apart policy kept s t hs ht same =
    ⊎_elim (λ e. e) (λ order. ⊎_elim
    (λ lt. absurd (later_differs policy.kinds kept.grown.kinds s t lt ht same))
    (λ lt. absurd (later_differs policy.kinds kept.grown.kinds t s lt hs (sym same)))
    order) (cases_order s t)

-- a look-up after one entry more
pub found_more : {V : Type 0} (key : List ℕ) (value : V) (found found' : List ℕ → Option V) (P P' : List ℕ → Type 0) (Q Q' : List ℕ → V → Type 0) → ((name : List ℕ) → found' name ≡ cond (bytes_eq key name) (Some value) (found name)) → Q' key value → ((name : List ℕ) → bytes_eq key name ≡ false → P name → P' name) → ((name : List ℕ) (x : V) → Q name x → Q' name x) → ((name : List ℕ) → MatchOption (found name) (P name) (Q name)) → (name : List ℕ) → MatchOption (found' name) (P' name) (Q' name)
found_more {V} key value found found' P P' Q Q' updated new missed kept before name =
    subst (λ o. MatchOption o (P' name) (Q' name)) (sym (updated name)) (by_key (bytes_eq key name) refl)
  where
    on : (o : Option V) → (bytes_eq key name ≡ false) → MatchOption o (P name) (Q name) → MatchOption o (P' name) (Q' name)
    on None apart h = missed name apart h
    on (Some x) apart h = kept name x h

    by_key : (b : Bool) → bytes_eq key name ≡ b → MatchOption (cond b (Some value) (found name)) (P' name) (Q' name)
    by_key true same = subst (λ n. Q' n value) (same_name key name same) new
    by_key false apart = on (found name) apart (before name)

-- the first types are found at their places, and no other name is found
abbrev pub ArePlacesBelow : List KindLine → ℕ → (List ℕ → Option ℕ) → Type 0
ArePlacesBelow kinds i found = (name : List ℕ) → MatchOption (found name) (is_kind (take i kinds) name ≡ false) (λ place. (place < i) × (name_at kinds place ≡ name))

-- one type more
kind_missed : (kinds : List KindLine) (i : ℕ) (kind : KindLine) (name : List ℕ) → i < length kinds → kind ≡ get_or kinds i kind → bytes_eq kind.name name ≡ false → is_kind (take i kinds) name ≡ false → is_kind (take (i + 1) kinds) name ≡ false
unfolding is_kind
kind_missed kinds i kind name within read apart none =
    list_any_more (λ one. bytes_eq one.name name) kinds i kind within
    ∙ or_from _ _ none (ap (λ (k : KindLine). bytes_eq k.name name) (sym read) ∙ apart)

pub places_more : (kinds : List KindLine) (i : ℕ) (kind : KindLine) (found found' : List ℕ → Option ℕ) → i < length kinds → kind ≡ get_or kinds i kind → ((name : List ℕ) → found' name ≡ cond (bytes_eq kind.name name) (Some i) (found name)) → ArePlacesBelow kinds i found → ArePlacesBelow kinds (i + 1) found'
places_more kinds i kind found found' within read updated below =
    let at : kind ≡ get_or kinds i no_kind = get_or_read kinds i kind within read no_kind in
    found_more kind.name i found found'
    (λ name. is_kind (take i kinds) name ≡ false)
    (λ name. is_kind (take (i + 1) kinds) name ≡ false)
    (λ name place. (place < i) × (name_at kinds place ≡ name))
    (λ name place. (place < i + 1) × (name_at kinds place ≡ name))
    updated
    (omega arith, ap (λ (k : KindLine). k.name) (sym at))
    (λ name apart none. kind_missed kinds i kind name within read apart none)
    (λ name place h. let low : place < i = h.0 in (omega arith, h.1))
    below

-- all types
pub places_all : (kinds : List KindLine) (i : ℕ) (found : List ℕ → Option ℕ) → length kinds ≤ i → i ≤ length kinds → ArePlacesBelow kinds i found → ArePlaces kinds found
places_all kinds i found past within below name = on (found name) (below name)
  where
    on : (o : Option ℕ) → MatchOption o (is_kind (take i kinds) name ≡ false) (λ place. (place < i) × (name_at kinds place ≡ name)) → MatchOption o (is_kind kinds name ≡ false) (IsPlaceOf kinds name)
    on None h = subst (λ ks. is_kind ks name ≡ false) (take_all i kinds past) h
    on (Some place) h = let low : place < i = h.0 in record { within = omega arith; named = h.1 }

-- no entry
pub places_none : (kinds : List KindLine) (found : List ℕ → Option ℕ) → ((name : List ℕ) → found name ≡ None) → ArePlacesBelow kinds 0 found
unfolding is_kind
places_none kinds found none name = subst (λ o. MatchOption o (is_kind (take 0 kinds) name ≡ false) (λ place. (place < 0) × (name_at kinds place ≡ name))) (sym (none name)) refl

-- the set of one type more
pub sets_more_kind : (policy : PolicyParts) (attributes : List AttributeLine) (i : ℕ) (kind : KindLine) (set : KindSet) (found found' : List ℕ → Option KindSet) → i < length policy.kinds → kind ≡ get_or policy.kinds i kind → ((name : List ℕ) → found' name ≡ cond (bytes_eq kind.name name) (Some set) (found name)) → IsSetOf policy kind.name set.words → AreSets policy (take i policy.kinds) attributes found → AreSets policy (take (i + 1) policy.kinds) attributes found'
sets_more_kind policy attributes i kind set found found' within read updated new before =
    found_more kind.name set found found'
    (IsUndeclared (take i policy.kinds) attributes)
    (IsUndeclared (take (i + 1) policy.kinds) attributes)
    (λ name one. IsSetOf policy name one.words)
    (λ name one. IsSetOf policy name one.words)
    updated new
    (λ name apart none. record { kind = kind_missed policy.kinds i kind name within read apart none.kind; attribute = none.attribute })
    (λ name one h. h)
    before

-- the set of one attribute more
attribute_missed : (attributes : List AttributeLine) (i : ℕ) (attribute : AttributeLine) (name : List ℕ) → i < length attributes → attribute ≡ get_or attributes i attribute → bytes_eq attribute.name name ≡ false → is_attribute (take i attributes) name ≡ false → is_attribute (take (i + 1) attributes) name ≡ false
unfolding is_attribute
attribute_missed attributes i attribute name within read apart none =
    list_any_more (λ one. bytes_eq one.name name) attributes i attribute within
    ∙ or_from _ _ none (ap (λ (a : AttributeLine). bytes_eq a.name name) (sym read) ∙ apart)

pub sets_more_attribute : (policy : PolicyParts) (i : ℕ) (attribute : AttributeLine) (set : KindSet) (found found' : List ℕ → Option KindSet) → i < length policy.attributes → attribute ≡ get_or policy.attributes i attribute → ((name : List ℕ) → found' name ≡ cond (bytes_eq attribute.name name) (Some set) (found name)) → IsSetOf policy attribute.name set.words → AreSets policy policy.kinds (take i policy.attributes) found → AreSets policy policy.kinds (take (i + 1) policy.attributes) found'
sets_more_attribute policy i attribute set found found' within read updated new before =
    found_more attribute.name set found found'
    (IsUndeclared policy.kinds (take i policy.attributes))
    (IsUndeclared policy.kinds (take (i + 1) policy.attributes))
    (λ name one. IsSetOf policy name one.words)
    (λ name one. IsSetOf policy name one.words)
    updated new
    (λ name apart none. record { kind = none.kind; attribute = attribute_missed policy.attributes i attribute name within read apart none.attribute })
    (λ name one h. h)
    before

-- no entry
pub sets_none : (policy : PolicyParts) (found : List ℕ → Option KindSet) → ((name : List ℕ) → found name ≡ None) → AreSets policy [] [] found
unfolding is_kind is_attribute
sets_none policy found none name = subst (λ o. MatchOption o (IsUndeclared [] [] name) (λ one. IsSetOf policy name one.words)) (sym (none name)) (record { kind = refl; attribute = refl })

-- a name of no attribute has no type in it
in_none : (attributes : List AttributeLine) (name kind : List ℕ) → is_attribute attributes name ≡ false → is_in attributes name kind ≡ false
unfolding is_in is_attribute
in_none [] name kind none = refl
in_none (attribute ∷ attributes) name kind none =
    let parts = or_parts (bytes_eq attribute.name name) (list_any (λ one. bytes_eq one.name name) attributes) none in
    or_from _ _ (and_left _ _ parts.0) (in_none attributes name kind parts.1)

-- a name means no declared type
abbrev pub MeansNone : PolicyParts → List ℕ → Type 0
MeansNone policy name = (place : ℕ) → place < length policy.kinds → means policy.attributes name (kind_at policy place) ≡ false

-- a name that is not declared means no type
pub means_none : (policy : PolicyParts) (name : List ℕ) → IsUndeclared policy.kinds policy.attributes name → MeansNone policy name
unfolding is_kind
means_none policy name none place within =
    let apart : bytes_eq name (kind_at policy place) ≡ false = false_from_ne_true _ (λ same. false≢true (sym none.kind ∙ list_any_at (λ kind. bytes_eq kind.name name) policy.kinds place no_kind within (name_same (kind_at policy place) name (sym (same_name name (kind_at policy place) same))))) in
    or_from _ _ apart (in_none policy.attributes name (kind_at policy place) none.attribute)

-- one attribute more
is_in_more : (attributes : List AttributeLine) (i : ℕ) (attribute : AttributeLine) (name kind : List ℕ) → i < length attributes → attribute ≡ get_or attributes i attribute → is_in (take (i + 1) attributes) name kind ≡ (is_in (take i attributes) name kind || (bytes_eq attribute.name name && list_any (λ member. bytes_eq member kind) attribute.members))
unfolding is_in
is_in_more attributes i attribute name kind within read =
    let has : AttributeLine → Bool = λ one. bytes_eq one.name name && list_any (λ member. bytes_eq member kind) one.members in
    list_any_more has attributes i attribute within ∙ ap (λ (a : AttributeLine). list_any has (take i attributes) || has a) (sym read)

join_named : (own in' : Bool) (any : Bool) → ((own || in') || any) ≡ (own || (in' || (true && any)))
join_named true in' any = refl
join_named false in' any = refl

join_other : (own in' : Bool) (any : Bool) → (own || in') ≡ (own || (in' || (false && any)))
join_other true in' any = refl
join_other false true any = refl
join_other false false any = refl

-- a set of the types of that name and of those in the first attributes of that name
abbrev pub IsSetBelow : List KindLine → List AttributeLine → List ℕ → (ℕ → Bool) → Type 0
IsSetBelow kinds attributes name set =
    (place : ℕ) → place < length kinds → set place ≡ (bytes_eq name (name_at kinds place) || is_in attributes name (name_at kinds place))

-- an attribute of that name
pub joined : (kinds : List KindLine) (attributes : List AttributeLine) (i : ℕ) (attribute : AttributeLine) (name : List ℕ) (set set' : ℕ → Bool) → i < length attributes → attribute ≡ get_or attributes i attribute → bytes_eq attribute.name name ≡ true → ((place : ℕ) → place < length kinds → set' place ≡ (set place || list_any (λ member. bytes_eq member (name_at kinds place)) attribute.members)) → IsSetBelow kinds (take i attributes) name set → IsSetBelow kinds (take (i + 1) attributes) name set'
joined kinds attributes i attribute name set set' within read named put before place low =
    put place low ∙ ap (λ b. b || list_any (λ member. bytes_eq member (name_at kinds place)) attribute.members) (before place low)
    ∙ join_named (bytes_eq name (name_at kinds place)) (is_in (take i attributes) name (name_at kinds place)) (list_any (λ member. bytes_eq member (name_at kinds place)) attribute.members)
    ∙ ap (λ b. bytes_eq name (name_at kinds place) || (is_in (take i attributes) name (name_at kinds place) || (b && list_any (λ member. bytes_eq member (name_at kinds place)) attribute.members))) (sym named)
    ∙ ap (λ b. bytes_eq name (name_at kinds place) || b) (sym (is_in_more attributes i attribute name (name_at kinds place) within read))

-- an attribute of another name
pub not_joined : (kinds : List KindLine) (attributes : List AttributeLine) (i : ℕ) (attribute : AttributeLine) (name : List ℕ) (set : ℕ → Bool) → i < length attributes → attribute ≡ get_or attributes i attribute → bytes_eq attribute.name name ≡ false → IsSetBelow kinds (take i attributes) name set → IsSetBelow kinds (take (i + 1) attributes) name set
not_joined kinds attributes i attribute name set within read other before place low =
    before place low
    ∙ join_other (bytes_eq name (name_at kinds place)) (is_in (take i attributes) name (name_at kinds place)) (list_any (λ member. bytes_eq member (name_at kinds place)) attribute.members)
    ∙ ap (λ b. bytes_eq name (name_at kinds place) || (is_in (take i attributes) name (name_at kinds place) || (b && list_any (λ member. bytes_eq member (name_at kinds place)) attribute.members))) (sym other)
    ∙ ap (λ b. bytes_eq name (name_at kinds place) || b) (sym (is_in_more attributes i attribute name (name_at kinds place) within read))

-- a set that has what it had, and of the places below one those that pass a test
abbrev pub HasBelow : ℕ → (ℕ → Bool) → (ℕ → Bool) → (ℕ → Bool) → Type 0
HasBelow limit test before now = (place : ℕ) → now place ≡ (before place || (ltb place limit && test place))

-- one place more, which passes
pub below_added : (test before now now' : ℕ → Bool) (i : ℕ) → test i ≡ true → ((place : ℕ) → now' place ≡ ((i == place) || now place)) → HasBelow i test before now → HasBelow (i + 1) test before now'
below_added test before now now' i passes added has place =
    ⊎_elim
    (λ same.
    let hit : (i == place) ≡ true = eq-eqb i place (sym same) in
    let low : ltb place (i + 1) ≡ true = lt-ltb place (i + 1) (omega arith) in
    added place ∙ rw hit (sym (rw low (rw same (rw passes (or_true (before i)))))))
    (λ apart.
    let miss : (i == place) ≡ false = ne_eqb i place (λ e. apart (sym e)) in
    added place ∙ rw miss (has place ∙ ap (λ b. before place || (b && test place)) (next_below i place apart)))
    (cases_eq place i)
  where
    or_true : (b : Bool) → (b || true) ≡ true
    or_true true = refl
    or_true false = refl

-- one place more, which does not pass
pub below_missed : (test before now : ℕ → Bool) (i : ℕ) → test i ≡ false → HasBelow i test before now → HasBelow (i + 1) test before now
below_missed test before now i fails has place =
    ⊎_elim
    (λ same.
    let none : test place ≡ false = ap test same ∙ fails in
    has place ∙ rw none (either (ltb place i) (ltb place (i + 1))))
    (λ apart. has place ∙ ap (λ b. before place || (b && test place)) (next_below i place apart))
    (cases_eq place i)
  where
    either : (a b : Bool) → (before place || (a && false)) ≡ (before place || (b && false))
    either true true = refl
    either true false = refl
    either false true = refl
    either false false = refl

-- no place yet
pub below_begun : (test before : ℕ → Bool) → HasBelow 0 test before before
below_begun test before place = rw (le-ltb place 0 (omega arith)) (sym (or_false (before place)))
  where
    or_false : (b : Bool) → (b || false) ≡ b
    or_false true = refl
    or_false false = refl

-- all places below
pub below_all : (test before now : ℕ → Bool) (i n : ℕ) → n ≤ i → HasBelow i test before now → (place : ℕ) → place < n → now place ≡ (before place || test place)
below_all test before now i n past has place within = has place ∙ rw (lt-ltb place i (omega arith)) refl

-- two types are one where their names are
pub same_place : (kinds : List KindLine) (s t : ℕ) → AreApart kinds → s < length kinds → t < length kinds → (s == t) ≡ bytes_eq (name_at kinds s) (name_at kinds t)
same_place kinds s t apart hs ht =
    ⊎_elim
    (λ same. eq-eqb s t same ∙ sym (name_same (name_at kinds s) (name_at kinds t) (ap (name_at kinds) same)))
    (λ differ. ne_eqb s t differ ∙ sym (false_from_ne_true (bytes_eq (name_at kinds s) (name_at kinds t)) (λ same. differ (apart s t hs ht (same_name (name_at kinds s) (name_at kinds t) same)))))
    (cases_eq s t)

-- the types of that very name, before any attribute
pub own_begun : (kinds : List KindLine) (name : List ℕ) (set : ℕ → Bool) → ((place : ℕ) → place < length kinds → set place ≡ bytes_eq name (name_at kinds place)) → IsSetBelow kinds [] name set
unfolding is_in
own_begun kinds name set own place within = own place within ∙ sym (or_false (bytes_eq name (name_at kinds place)))
  where
    or_false : (b : Bool) → (b || false) ≡ b
    or_false true = refl
    or_false false = refl

-- the type of a name is put into a set
pub named_added : (kinds : List KindLine) (name : List ℕ) (at : ℕ) (before now : ℕ → Bool) → AreApart kinds → IsPlaceOf kinds name at → ((place : ℕ) → now place ≡ ((at == place) || before place)) → (place : ℕ) → place < length kinds → now place ≡ (before place || bytes_eq name (name_at kinds place))
named_added kinds name at before now apart is added place within =
    added place
    ∙ ap (λ b. b || before place) (same_place kinds at place apart is.within within ∙ ap (λ n. bytes_eq n (name_at kinds place)) is.named)
    ∙ swapped (bytes_eq name (name_at kinds place)) (before place)
  where
    swapped : (a b : Bool) → (a || b) ≡ (b || a)
    swapped true true = refl
    swapped true false = refl
    swapped false true = refl
    swapped false false = refl

-- a name of no type adds none
pub named_missed : (kinds : List KindLine) (name : List ℕ) (before : ℕ → Bool) → is_kind kinds name ≡ false → (place : ℕ) → place < length kinds → before place ≡ (before place || bytes_eq name (name_at kinds place))
unfolding is_kind
named_missed kinds name before none place within =
    let apart : bytes_eq name (name_at kinds place) ≡ false = false_from_ne_true _ (λ same. false≢true (sym none ∙ list_any_at (λ kind. bytes_eq kind.name name) kinds place no_kind within (name_same (name_at kinds place) name (sym (same_name name (name_at kinds place) same))))) in
    sym (ap (λ b. before place || b) apart ∙ or_false (before place))
  where
    or_false : (b : Bool) → (b || false) ≡ b
    or_false true = refl
    or_false false = refl

-- the types of the first members are in a set, besides those that it had
abbrev pub HasMembers : (List ℕ → Option ℕ) → List (List ℕ) → (ℕ → Bool) → (ℕ → Bool) → Type 0
HasMembers found members before now =
    (kinds : List KindLine) → AreApart kinds → ArePlaces kinds found → (place : ℕ) → place < length kinds → now place ≡ (before place || list_any (λ member. bytes_eq member (name_at kinds place)) members)

-- none yet
pub members_begun : (found : List ℕ → Option ℕ) (before : ℕ → Bool) → HasMembers found [] before before
members_begun found before kinds apart places place within = sym (or_false (before place))
  where
    or_false : (b : Bool) → (b || false) ≡ b
    or_false true = refl
    or_false false = refl

-- one member more
pub members_more : (found : List ℕ → Option ℕ) (members : List (List ℕ)) (i : ℕ) (member : List ℕ) (before now now' : ℕ → Bool) → i < length members → member ≡ get_or members i member
    → ((kinds : List KindLine) → AreApart kinds → ArePlaces kinds found → (place : ℕ) → place < length kinds → now' place ≡ (now place || bytes_eq member (name_at kinds place)))
    → HasMembers found (take i members) before now → HasMembers found (take (i + 1) members) before now'
members_more found members i member before now now' within read added has kinds apart places place below =
    let is : List ℕ → Bool = λ one. bytes_eq one (name_at kinds place) in
    added kinds apart places place below
    ∙ ap (λ b. b || is member) (has kinds apart places place below)
    ∙ joined_or (before place) (list_any is (take i members)) (is member)
    ∙ ap (λ b. before place || b) (ap (λ one. list_any is (take i members) || is one) read ∙ sym (list_any_more is members i member within))
  where
    joined_or : (a b c : Bool) → ((a || b) || c) ≡ (a || (b || c))
    joined_or true b c = refl
    joined_or false b c = refl

-- the set of a name that stands at a place
pub named_at : (policy : PolicyParts) (sets : List NamedSet) (at : ℕ) (named : NamedSet) (name : List ℕ) → slice_get sets at ≡ Some named → bytes_eq named.name name ≡ true → AreNamed policy sets → IsSetOf policy name named.set.words
named_at policy sets at named name found same all =
    let there : get_or sets at named ≡ named = get_or_from_slice_get sets at named named found in
    let own : IsSetOf policy named.name named.set.words = subst (λ (n : NamedSet). IsSetOf policy n.name n.set.words) there (All-get_or (λ (n : NamedSet). IsSetOf policy n.name n.set.words) sets at named (slice_get_within sets at named found) all) in
    subst (λ n. IsSetOf policy n named.set.words) (same_name named.name name same) own

-- one set more
pub named_more : (policy : PolicyParts) (sets : List NamedSet) (name : List ℕ) (set : KindSet) → AreNamed policy sets → IsSetOf policy name set.words → AreNamed policy (sets ++ record { name = name; set = set } ∷ [])
named_more policy sets name set all own = All-push (λ (n : NamedSet). IsSetOf policy n.name n.set.words) sets (record { name = name; set = set }) all own
