-- Identifiers of contexts: their order, and the cells that have their numbers.
use Rattle.std.proofs.Common.{◌≡◌, ◌<◌, ◌≤◌, ◌+◌, ◌*◌, ◌∙◌, ◌⊎◌, inl, inr, ℕ, Bool, true, false, eqb, List, [], ◌∷◌, ◌++◌, length, get_or, set, take, drop, refl, sym, ap, subst, arith}
use Rattle.std.specs.List.{All, Contains, IsDistinct}
use Rattle.std.specs.List.Sorted.{IsPermutation, IsStrictlySortedBy}
use Rattle.std.specs.Cmp.{IsEquivalence}
use Rattle.std.specs.Ordering.{nat_cmp, ordering_then}
use Rattle.std.specs.declared.cmp.Ordering.{Ordering}
use Rattle.std.specs.declared.cmp.Ordering.TheVariants.{Less, Equal, Greater}
use Rattle.std.specs.Cmp.Lexicographic.{slice_cmp}
use Rattle.std.proofs.lemmas.Bool.{and_from, both_ways, cases_lt, eq-eqb}
use Rattle.std.proofs.lemmas.Cmp.{ranked, nat_list_eq_equiv, nat_list_cmp_total, on_equiv, on_total, and_equiv}
use Rattle.std.proofs.lemmas.List.{map-append, take_more, get_or-map, get_or-take, get_or-set_same, get_or-set_other, get_or_default, length-map, length-take, length-take-le, take-append-drop, take_at, take-map}
use Rattle.std.proofs.lemmas.List.Folds.{list_any_none}
use Rattle.std.proofs.lemmas.List.Elements.{All-drop}
use Rattle.std.proofs.lemmas.List.Sorted.{IsPermutation-append_right, All-permutation, Contains-permutation, IsPermutation-map, length_permutation}
use Rattle.std.proofs.lemmas.Map.Keys.{IsDistinct-tail, IsDistinct-IsPermutation, apart_from_distinct}
use Rattle.flask_sid.specs.declared.context.ContextOf.{ContextOf}
use Rattle.flask_sid.specs.Contexts.{context_text}
use Rattle.flask_sid.specs.SidTables.{is_same_context, is_kept, with_context, AreDistinct}
use Rattle.policy_model.specs.declared.policy.PolicyParts.{PolicyParts}
use Rattle.policy_model.specs.Kept.{IsWholePolicy}
use Rattle.policy_versions.specs.Closure.{IsDerivable, text_order, declared_contexts, AreContexts}
use Rattle.policy_versions.specs.Numbers.{AreRows, context_at, Derives}
use Rattle.policy_versions.specs.Users.{HasFront}
use Rattle.policy_versions.specs.Founds.{IsInside, is_same_place}
use Rattle.policy_versions.specs.Closing.{contexts_of, HasContext, AreWhole}
use Rattle.policy_versions.specs.Orders.{place_at, AreInTextOrder, IsOrdered}
use Rattle.policy_versions.specs.Identifiers.{cell_in, AreOrdered, AreCounted, AreNumbered}
use Rattle.policy_versions.specs.declared.user_role.UserRole.{UserRole}
use Rattle.policy_versions.specs.declared.place.Place.{Place}
use Rattle.policy_versions.proofs.FoundLemmas.{same_place_equiv, stands_at, front_shorter}
use Rattle.policy_versions.proofs.RoundLemmas.{AreGood, contexts_distinct}
use Rattle.policy_versions.proofs.OrderLemmas.{strictly_sorted}
use Rattle.policy_versions.proofs.TextLemmas.{one_text, has_names}

-- contexts are the same by their names
pub same_context_equiv : IsEquivalence is_same_context
same_context_equiv =
    and_equiv (on_equiv (λ (c : ContextOf (List ℕ)). c.user) nat_list_eq_equiv)
    (and_equiv (on_equiv (λ (c : ContextOf (List ℕ)). c.role) nat_list_eq_equiv) (on_equiv (λ (c : ContextOf (List ℕ)). c.kind) nat_list_eq_equiv))

-- one context more in a table
pub contexts_next : (contexts : List (ContextOf (List ℕ))) (i : ℕ) (context : ContextOf (List ℕ)) (sids sids' : List (ContextOf (List ℕ))) → AreDistinct contexts → i < length contexts → context ≡ get_or contexts i context → sids ≡ take i contexts → sids' ≡ with_context sids context → sids' ≡ take (i + 1) contexts
contexts_next contexts i context sids sids' distinct within is before added =
    let short : length (take i contexts) ≤ i = simp length-take (omega arith) in
    let new : is_kept (take i contexts) context ≡ false = list_any_none (is_same_context context) (take i contexts) (λ k d low.
    (let of_i : k < i = omega arith in
    let apart : is_same_context (get_or contexts k d) (get_or contexts i d) ≡ false = apart_from_distinct is_same_context contexts k i d distinct of_i within in
    let here : get_or contexts i d ≡ context = get_or_default contexts i d context within ∙ sym is in
    rw get_or-take (same_context_equiv.symm context (get_or contexts k d) ∙ (rw here at apart)))) in
    let old : is_kept sids context ≡ false = rw before new in
    let all : sids' ≡ sids ++ context ∷ [] = rw old at added in
    all ∙ ap (λ xs. xs ++ context ∷ []) before ∙ ap (λ c. take i contexts ++ c ∷ []) is ∙ sym (take_more contexts i context within)

-- the cells of different places differ
cells_apart : (places : List Place) (rows : ℕ) → All (IsInside rows) places → IsDistinct is_same_place places → (k at : ℕ) → k < at → at < length places → (place_at places k).row * 128 + (place_at places k).kind ≡ (place_at places at).row * 128 + (place_at places at).kind → ⊥
cells_apart places rows inside distinct k at before within same =
    let d : Place = record { row = 0; kind = 0 } in
    let of_k : k < length places = omega arith in
    let p = inside k d of_k in
    let q = inside at d within in
    let row : (place_at places at).row ≡ (place_at places k).row = omega (arith, p.kind, q.kind) in
    let kind : (place_at places at).kind ≡ (place_at places k).kind = omega (arith, p.kind, q.kind) in
    let alike : is_same_place (place_at places k) (place_at places at) ≡ true = and_from (eqb (place_at places at).row (place_at places k).row) (eqb (place_at places at).kind (place_at places k).kind) (eq-eqb _ _ row) (eq-eqb _ _ kind) in
    both_ways _ (apart_from_distinct is_same_place places k at d distinct before within) alike

-- one place more has its number in its cell
pub counted_more : (places : List Place) (rows : ℕ) (cells : List ℕ) (at : ℕ) (place : Place) → All (IsInside rows) places → IsDistinct is_same_place places → length cells ≡ rows * 128 → at < length places → place ≡ get_or places at place → ((k : ℕ) → k < at → cell_in cells (place_at places k).row (place_at places k).kind ≡ k + 1) → (k : ℕ) → k < at + 1 → cell_in (set cells (place.row * 128 + place.kind) (at + 1)) (place_at places k).row (place_at places k).kind ≡ k + 1
counted_more places rows cells at place inside distinct size within read before k low = by_place (cases_lt k at)
  where
    is : place ≡ place_at places at
    is = read ∙ get_or_default places at place (record { row = 0; kind = 0 }) within

    by_place : (k < at) ⊎ (at ≤ k) → cell_in (set cells (place.row * 128 + place.kind) (at + 1)) (place_at places k).row (place_at places k).kind ≡ k + 1
    by_place (inl old) =
        get_or-set_other cells (place.row * 128 + place.kind) ((place_at places k).row * 128 + (place_at places k).kind) (at + 1) 0 (λ same. cells_apart places rows inside distinct k at old within (same ∙ ap (λ (p : Place). p.row * 128 + p.kind) is))
        ∙ before k old
    by_place (inr new) =
        let here : k ≡ at = omega arith in
        let at_place = inside at (record { row = 0; kind = 0 }) within in
        let fits : (place_at places at).row * 128 + (place_at places at).kind < length cells = omega (arith, at_place.row, at_place.kind, size) in
        rw (here, is) (get_or-set_same cells _ (at + 1) 0 fits)

-- texts that tie are one
nat_tie : (x y : ℕ) → nat_cmp x y ≡ Equal → x ≡ y
nat_tie x y tied = ranked x y Equal (sym tied)

both_tie : (first rest : Ordering) → ordering_then first rest ≡ Equal → (first ≡ Equal) × (rest ≡ Equal)
both_tie Less rest tied = cc
both_tie Equal rest tied = (refl, tied)
both_tie Greater rest tied = cc

text_tie : (a b : List ℕ) → slice_cmp nat_cmp a b ≡ Equal → a ≡ b
text_tie [] [] tied = refl
text_tie [] (y ∷ ys) tied = cc
text_tie (x ∷ xs) [] tied = cc
text_tie (x ∷ xs) (y ∷ ys) tied =
    let parts = both_tie (nat_cmp x y) (slice_cmp nat_cmp xs ys) tied in
    ap (λ n. n ∷ xs) (nat_tie x y parts.0) ∙ ap (λ ns. y ∷ ns) (text_tie xs ys parts.1)

-- the back of a list without repeats has none
distinct_back : {X : Type 0} (e : X → X → Bool) (front back : List X) → IsDistinct e (front ++ back) → IsDistinct e back
distinct_back e [] back distinct = distinct
distinct_back e (x ∷ front) back distinct = distinct_back e front back (IsDistinct-tail e x (front ++ back) distinct)

module _ (policy : PolicyParts) (users : List UserRole) (kept : IsWholePolicy policy) (rows : AreRows users) where
  -- contexts to which a policy leads, whose texts never fall, have rising texts
  texts_strict : (places : List Place) → AreGood policy users places → AreInTextOrder policy users places → IsStrictlySortedBy text_order (contexts_of policy users places)
  texts_strict places good sorted = strictly_sorted text_order (on_total context_text nat_list_cmp_total) (contexts_of policy users places)
      (λ k e low within.
      (let many : k + 1 < length places = rw length-map at within in
      let of_k : k < length places = omega arith in
      let d : Place = record { row = 0; kind = 0 } in
      rw (get_or-map (λ (place : Place). context_at policy users place.row place.kind) places (k + 1) d e many, get_or-map (λ (place : Place). context_at policy users place.row place.kind) places k d e of_k) (sorted k d low many)))
      (λ i j e before within tied.
      (let distinct = contexts_distinct policy users kept rows places good in
      let of_j : j < length places = rw length-map at within in
      let of_i : i < length places = omega arith in
      let d : Place = record { row = 0; kind = 0 } in
      let a : ContextOf (List ℕ) = get_or (contexts_of policy users places) i e in
      let b : ContextOf (List ℕ) = get_or (contexts_of policy users places) j e in
      let of_a : IsDerivable policy a = rw (get_or-map (λ (place : Place). context_at policy users place.row place.kind) places i d e of_i) (good.derive i d of_i) in
      let of_b : IsDerivable policy b = rw (get_or-map (λ (place : Place). context_at policy users place.row place.kind) places j d e of_j) (good.derive j d of_j) in
      let one : a ≡ b = one_text a b (has_names policy kept a of_a) (has_names policy kept b of_b) (text_tie (context_text a) (context_text b) tied) in
      let same : is_same_context a b ≡ true = subst (λ c. is_same_context a c ≡ true) one (same_context_equiv.refl a) in
      both_ways _ (apart_from_distinct is_same_context (contexts_of policy users places) i j e distinct before within) same))

  module _ (declared found ordered : List Place) (begins : contexts_of policy users declared ≡ declared_contexts policy) (front : HasFront found declared) (good : AreGood policy users found) (sorts : IsOrdered policy users found (length declared) ordered) where
    -- the places are moved
    moved : IsPermutation found ordered
    moved =
        let parts : IsPermutation (take (length declared) found ++ drop (length declared) found) (take (length declared) found ++ sorts.sorted) = IsPermutation-append_right (take (length declared) found) (drop (length declared) found) sorts.sorted sorts.moved in
        let whole : IsPermutation found (take (length declared) found ++ sorts.sorted) = subst (λ xs. IsPermutation xs (take (length declared) found ++ sorts.sorted)) (take-append-drop (length declared) found) parts in
        subst (IsPermutation found) (sym sorts.all) whole

    pub good_ordered : AreGood policy users ordered
    good_ordered = record {
      inside = All-permutation (IsInside (length users)) found ordered moved good.inside;
      derive = All-permutation (λ (place : Place). Derives policy users place.row place.kind) found ordered moved good.derive;
      distinct = IsDistinct-IsPermutation is_same_place same_place_equiv.symm found ordered moved good.distinct;
    }

    good_sorted : AreGood policy users sorts.sorted
    good_sorted = record {
      inside = All-permutation (IsInside (length users)) (drop (length declared) found) sorts.sorted sorts.moved (All-drop (IsInside (length users)) (length declared) found good.inside);
      derive = All-permutation (λ (place : Place). Derives policy users place.row place.kind) (drop (length declared) found) sorts.sorted sorts.moved (All-drop (λ (place : Place). Derives policy users place.row place.kind) (length declared) found good.derive);
      distinct = distinct_back is_same_place (take (length declared) found) sorts.sorted (subst (IsDistinct is_same_place) sorts.all good_ordered.distinct);
    }

    -- the declared contexts come first
    parts : contexts_of policy users ordered ≡ declared_contexts policy ++ contexts_of policy users sorts.sorted
    parts =
        let first : take (length declared) found ≡ declared = ap (take (length declared)) front.all ∙ take_at declared front.more (length declared) refl in
        ap (contexts_of policy users) (sorts.all ∙ ap (λ xs. xs ++ sorts.sorted) first)
        ∙ map-append (λ (place : Place). context_at policy users place.row place.kind) declared sorts.sorted
        ∙ ap (λ xs. xs ++ contexts_of policy users sorts.sorted) begins

    sound : (context : ContextOf (List ℕ)) → Contains (contexts_of policy users sorts.sorted) context → IsDerivable policy context
    sound context contains =
        let d : Place = record { row = 0; kind = 0 } in
        let within : contains.0 < length sorts.sorted = rw length-map at contains.1 in
        let is : context_at policy users (get_or sorts.sorted contains.0 d).row (get_or sorts.sorted contains.0 d).kind ≡ context = sym (get_or-map (λ (place : Place). context_at policy users place.row place.kind) sorts.sorted contains.0 d context within) ∙ contains.2 in
        subst (IsDerivable policy) is (good_sorted.derive contains.0 d within)

    whole : ((context : ContextOf (List ℕ)) → IsDerivable policy context → HasContext policy users found context) → (context : ContextOf (List ℕ)) → IsDerivable policy context → Contains (declared_contexts policy ++ contexts_of policy users sorts.sorted) context
    whole has context derives =
        let at = has context derives in
        let stands = stands_at found at.row at.kind at.has in
        let d : Place = record { row = 0; kind = 0 } in
        let is : get_or (contexts_of policy users found) stands.at context ≡ context =
        get_or-map (λ (place : Place). context_at policy users place.row place.kind) found stands.at d context stands.within
        ∙ ap (λ (place : Place). context_at policy users place.row place.kind) (stands.is d)
        ∙ at.is in
        let among : Contains (contexts_of policy users found) context = (stands.at, rw length-map stands.within, is) in
        let among_ordered : Contains (contexts_of policy users ordered) context = Contains-permutation (contexts_of policy users found) (contexts_of policy users ordered) context (IsPermutation-map (λ (place : Place). context_at policy users place.row place.kind) found ordered moved) among in
        subst (λ xs. Contains xs context) parts among_ordered

    pub ordered_all : ((context : ContextOf (List ℕ)) → IsDerivable policy context → HasContext policy users found context) → length found ≤ 4095 → AreOrdered policy users ordered
    ordered_all has few = record {
      few = rw (length_permutation found ordered moved) few;
      inside = good_ordered.inside;
      derive = good_ordered.derive;
      distinct = good_ordered.distinct;
      apart = contexts_distinct policy users kept rows ordered good_ordered;
      contexts = record {
        derived = contexts_of policy users sorts.sorted;
        are_derived = record {
          ordered = texts_strict sorts.sorted good_sorted sorts.in_order;
          distinct = subst AreDistinct parts (contexts_distinct policy users kept rows ordered good_ordered);
          sound = sound;
          whole = whole has;
        };
        all = parts;
      };
    }

-- the places of all contexts to which a policy leads, once those behind the declared ones are in the order of texts
pub in_order : (policy : PolicyParts) (users : List UserRole) → IsWholePolicy policy → AreRows users → (places : List Place) (count : ℕ) → count ≤ length places → length places ≤ 4095 → All (IsInside (length users)) places → IsDistinct is_same_place places → AreWhole policy users places → contexts_of policy users (take count places) ≡ declared_contexts policy → (sorted ordered : List Place) → IsPermutation (drop count places) sorted → AreInTextOrder policy users sorted → ordered ≡ take count places ++ sorted → AreOrdered policy users ordered
in_order policy users kept rows places count low few inside distinct whole begins sorted ordered moves rising all =
    let size : length (take count places) ≡ count = length-take-le count places low in
    ordered_all policy users kept rows (take count places) places ordered begins
    (record { more = drop count places; all = sym (take-append-drop count places) })
    (record { inside = inside; derive = whole.sound; distinct = distinct })
    (rw size (record { sorted = sorted; moved = moves; in_order = rising; all = all }))
    whole.whole few

-- with their identifiers and their cells
pub numbered : (policy : PolicyParts) (users : List UserRole) (places : List Place) (sids : List (ContextOf (List ℕ))) (cells : List ℕ) → AreRows users → AreOrdered policy users places → sids ≡ contexts_of policy users places → AreCounted places cells → AreNumbered policy users places sids cells
numbered policy users places sids cells rows ordered of_places counted = record {
  rows = rows;
  contexts = subst (AreContexts policy) (sym of_places) ordered.contexts;
  of_places = of_places;
  few = rw (of_places, length-map) ordered.few;
  inside = ordered.inside;
  derive = ordered.derive;
  apart = subst AreDistinct (sym of_places) ordered.apart;
  counted = counted;
}

-- the first places
pub first_places : (policy : PolicyParts) (users : List UserRole) (places declared : List Place) (count : ℕ) → HasFront places declared → count ≡ length declared → contexts_of policy users declared ≡ declared_contexts policy → (count ≤ length places) × (contexts_of policy users (take count places) ≡ declared_contexts policy)
first_places policy users places declared count front is begins =
    let first : take count places ≡ declared = rw is (ap (take (length declared)) front.all ∙ take_at declared front.more (length declared) refl) in
    (rw is (front_shorter places declared front), rw first begins)

-- one place more in a table of contexts
pub sids_next : (policy : PolicyParts) (users : List UserRole) (places : List Place) (i : ℕ) (place : Place) (context : ContextOf (List ℕ)) (sids sids' : List (ContextOf (List ℕ))) → AreDistinct (contexts_of policy users places) → i < length places → place ≡ get_or places i place → context ≡ context_at policy users place.row place.kind → sids ≡ contexts_of policy users (take i places) → sids' ≡ with_context sids context → sids' ≡ contexts_of policy users (take (i + 1) places)
sids_next policy users places i place context sids sids' distinct within read is before added =
    let f : Place → ContextOf (List ℕ) = λ (one : Place). context_at policy users one.row one.kind in
    let of_i : i < length (contexts_of policy users places) = rw length-map within in
    let at : context ≡ get_or (contexts_of policy users places) i context = is ∙ ap f read ∙ sym (get_or-map f places i place context within) in
    contexts_next (contexts_of policy users places) i context sids sids' distinct of_i at (before ∙ sym (take-map f i places)) added
    ∙ take-map f (i + 1) places
