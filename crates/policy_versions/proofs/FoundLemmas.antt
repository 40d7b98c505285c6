-- Sets of places that grow, and steps that are followed.
use Rattle.std.proofs.Common.{◌≡◌, ◌<◌, ◌≤◌, ◌+◌, ◌∙◌, ℕ, Bool, true, false, cond, eqb, List, [], ◌∷◌, ◌++◌, length, get_or, Some, refl, sym, ap, subst, arith, below_more, length-append, None, zero, suc, ⊎_elim}
use Rattle.std.specs.Prelude.{◌||◌, ◌&&◌, ◌==◌, slice_get}
use Rattle.std.specs.List.{list_any, All}
use Rattle.std.specs.Cmp.{IsEquivalence}
use Rattle.std.proofs.lemmas.Bool.{and_parts, and_from, or_left, or_right, eqb-true, cases_lt}
use Rattle.std.proofs.lemmas.Bool.Decides.{nat_tests}
use Rattle.std.proofs.lemmas.Cmp.{nat_eq_equiv}
use Rattle.std.proofs.lemmas.List.{append-nil, append_assoc, length_push, get_or_append_left, get_or_default}
use Rattle.std.proofs.lemmas.Option.{slice_get_within, get_or_from_slice_get}
use Rattle.std.proofs.lemmas.List.Folds.{list_any-append, list_any_at, Any-from_list_any}
use Rattle.std.proofs.lemmas.List.Elements.{All-push}
use Rattle.std.proofs.lemmas.Map.Keys.{IsDistinct-push}
use Rattle.policy_versions.specs.Numbers.{is_place, has_place, with_place, is_marked, object_row, AreBelow}
use Rattle.policy_versions.specs.Users.{HasFront}
use Rattle.policy_versions.specs.Steps.{IsFollowedTo, IsFollowedBelow}
use Rattle.policy_versions.specs.Founds.{IsReached, IsInside, is_same_place, Leads, AllLed, AreFollowed}
use Rattle.policy_versions.specs.declared.user_role.UserRole.{UserRole}
use Rattle.policy_versions.specs.declared.place.Place.{Place}

-- one place more
pub has_more : (places : List Place) (place : Place) (row kind : ℕ) → has_place (places ++ place ∷ []) row kind ≡ (has_place places row kind || is_place row kind place)
unfolding has_place
has_more places place row kind =
    list_any-append (is_place row kind) places (place ∷ []) ∙ ap (λ b. list_any (is_place row kind) places || b) (or_false (is_place row kind place))
  where
    or_false : (b : Bool) → (b || false) ≡ b
    or_false true = refl
    or_false false = refl

-- a place is that of its own numbers
pub is_place_itself : (place : Place) → is_place place.row place.kind place ≡ true
is_place_itself place = and_from _ _ (nat_eq_equiv.refl place.row) (nat_eq_equiv.refl place.kind)

-- places are the same by their rows and types
pub same_place_equiv : IsEquivalence is_same_place
same_place_equiv = record {
  refl = λ a. is_place_itself a;
  symm = λ a b. grind (arith, nat_tests);
  congr = λ a b c same. grind (arith, nat_tests);
}

-- a place that is new is apart from all others
pub apart : (places : List Place) (place : Place) → has_place places place.row place.kind ≡ false → list_any (is_same_place place) places ≡ false
unfolding has_place
apart places place new = new

-- one place more is kept with its mark
pub reached_more : (rows : ℕ) (places : List Place) (marks marks' : List Bool) (place : Place) → IsReached rows places marks → has_place places place.row place.kind ≡ false → length places < 4095 → place.row < rows → place.kind < 128 → length marks' ≡ length marks → ((row kind : ℕ) → kind < 128 → is_marked marks' row kind ≡ (is_marked marks row kind || (place.row == row && place.kind == kind))) → IsReached rows (places ++ place ∷ []) marks'
reached_more rows places marks marks' place before new few row kind size marked = record {
  sized = size ∙ before.sized;
  few = rw (length_push places place) (omega arith);
  inside = All-push (IsInside rows) places place before.inside (record { row = row; kind = kind });
  distinct = IsDistinct-push same_place_equiv places place before.distinct (apart places place new);
  shows = λ r k small. marked r k small ∙ ap (λ b. b || is_place r k place) (before.shows r k small) ∙ sym (has_more places place r k);
}

-- a list begins with itself, and with what its front begins with
pub front_itself : {X : Type 0} (list : List X) → HasFront list list
front_itself list = record { more = []; all = sym (append-nil list) }

pub front_of_front : {X : Type 0} (list middle front : List X) → HasFront list middle → HasFront middle front → HasFront list front
front_of_front list middle front a b = record {
  more = b.more ++ a.more;
  all = a.all ∙ ap (λ xs. xs ++ a.more) b.all ∙ append_assoc front b.more a.more;
}

-- a place added
pub front_with : (places : List Place) (place : Place) → HasFront (with_place places place) places
front_with places place =
    elim (has_place places place.row place.kind) as (λ b. HasFront (cond b places (places ++ place ∷ [])) places) [
      | true ↦ front_itself places
      | false ↦ record { more = place ∷ []; all = refl }
    ]

pub with_has : (places : List Place) (place : Place) → has_place (with_place places place) place.row place.kind ≡ true
with_has places place =
    elim (has_place places place.row place.kind) as (λ b. has_place places place.row place.kind ≡ b → has_place (cond b places (places ++ place ∷ [])) place.row place.kind ≡ true) [
      | true ↦ λ e. e
      | false ↦ λ e. has_more places place place.row place.kind ∙ or_right _ _ (is_place_itself place)
    ] refl

pub has_front : (places front : List Place) → HasFront places front → (row kind : ℕ) → has_place front row kind ≡ true → has_place places row kind ≡ true
unfolding has_place
has_front places front begins row kind has =
    rw begins.all (list_any-append (is_place row kind) front begins.more ∙ or_left _ _ has)

-- what is followed stays followed
pub followed_front : (users : List UserRole) (own object : List Bool) (places front : List Place) (place : Place) (kind : ℕ) → HasFront places front → IsFollowedTo users own object front place kind → IsFollowedTo users own object places place kind
followed_front users own object places front place kind begins followed = record {
  to_own = λ marked. has_front places front begins place.row kind (followed.to_own marked);
  to_object = λ marked. has_front places front begins (object_row users place.row) kind (followed.to_object marked);
}

-- a place to which steps lead
pub led_with : (users : List UserRole) (own object : List Bool) (start places : List Place) (place : Place) → AllLed users own object start places → Leads users own object start place.row place.kind → AllLed users own object start (with_place places place)
led_with users own object start places place led leads =
    elim (has_place places place.row place.kind) as (λ b. AllLed users own object start (cond b places (places ++ place ∷ []))) [
      | true ↦ led
      | false ↦ All-push (λ (one : Place). Leads users own object start one.row one.kind) places place led leads
    ]

-- where a place stands
pub record StandsAt (places : List Place) (row kind : ℕ) : Type 0 where
  pub at : ℕ
  pub within : at < length places
  pub is : (d : Place) → get_or places at d ≡ record { row = row; kind = kind }

place_is : (place : Place) (row kind : ℕ) → place.row ≡ row → place.kind ≡ kind → place ≡ record { row = row; kind = kind }
place_is place row kind of_row of_kind = ap (λ r. record { row = r; kind = place.kind }) of_row ∙ ap (λ k. record { row = row; kind = k }) of_kind

pub stands_at : (places : List Place) (row kind : ℕ) → has_place places row kind ≡ true → StandsAt places row kind
unfolding has_place
stands_at places row kind has =
    let found = Any-from_list_any (is_place row kind) places has in
    let parts = and_parts (eqb found.1.row row) (eqb found.1.kind kind) found.4 in
    let same_row : found.1.row ≡ row = eqb-true _ _ parts.0 in
    let same_kind : found.1.kind ≡ kind = eqb-true _ _ parts.1 in
    let same : found.1 ≡ record { row = row; kind = kind } = place_is found.1 row kind same_row same_kind in
    record { at = found.0; within = found.2; is = λ d. get_or_default places found.0 d found.1 found.2 ∙ found.3 ∙ same }

-- what holds of all places holds of one among them
pub all_has : (P : ℕ → ℕ → Type 0) (places : List Place) → All (λ (place : Place). P place.row place.kind) places → (row kind : ℕ) → has_place places row kind ≡ true → P row kind
all_has P places all row kind has =
    let stands = stands_at places row kind has in
    let d : Place = record { row = row; kind = kind } in
    subst (λ (place : Place). P place.row place.kind) (stands.is d) (all stands.at d stands.within)

-- a member is a place among all
pub has_at : (places : List Place) (k : ℕ) (d : Place) → k < length places → has_place places (get_or places k d).row (get_or places k d).kind ≡ true
unfolding has_place
has_at places k d within = list_any_at (is_place (get_or places k d).row (get_or places k d).kind) places k d within (is_place_itself (get_or places k d))

-- the places with one more, if it is to be added
abbrev pub places_where : Bool → List Place → Place → List Place
places_where b places place = cond b (with_place places place) places

pub front_where : (b : Bool) (places : List Place) (place : Place) → HasFront (places_where b places place) places
front_where true places place = front_with places place
front_where false places place = front_itself places

pub has_where : (b : Bool) (places : List Place) (place : Place) → b ≡ true → has_place (places_where b places place) place.row place.kind ≡ true
has_where true places place e = with_has places place
has_where false places place e = cc

pub led_where : (users : List UserRole) (own object : List Bool) (start : List Place) (b : Bool) (places : List Place) (place : Place) → AllLed users own object start places → (b ≡ true → Leads users own object start place.row place.kind) → AllLed users own object start (places_where b places place)
led_where users own object start true places place led leads = led_with users own object start places place led (leads refl)
led_where users own object start false places place led leads = led

-- the place at a position
pub at_position : (places : List Place) (place d : Place) (at : ℕ) → Some place ≡ slice_get places at → (at < length places) × (get_or places at d ≡ place)
at_position places place d at is = (slice_get_within places at place (sym is), get_or_from_slice_get places at place d (sym is))

pub led_at : (users : List UserRole) (own object : List Bool) (start places : List Place) (place : Place) (at : ℕ) → AllLed users own object start places → Some place ≡ slice_get places at → Leads users own object start place.row place.kind
led_at users own object start places place at led is =
    let stands = at_position places place place at is in
    subst (λ (one : Place). Leads users own object start one.row one.kind) stands.1 (led at place stands.0)

-- one place more whose steps are followed
pub followed_next : (users : List UserRole) (own object : List Bool) (places front : List Place) (place : Place) (at : ℕ) → AreFollowed users own object front at → HasFront places front → Some place ≡ slice_get front at → IsFollowedBelow users own object places place 128 → AreFollowed users own object places (at + 1)
followed_next users own object places front place at followed begins is here k d below = below_more (λ n. IsFollowedBelow users own object places (get_or places n d) 128) at before now k below
  where
    same : (n : ℕ) → n < length front → get_or places n d ≡ get_or front n d
    same n within = ap (λ xs. get_or xs n d) begins.all ∙ get_or_append_left front begins.more d n within

    before : (n : ℕ) → n < at → IsFollowedBelow users own object places (get_or places n d) 128
    before n low =
        let stands = at_position front place d at is in
        let inside : n < length front = omega (arith, stands.0) in
        rw (same n inside) (λ kind small. followed_front users own object places front (get_or front n d) kind begins (followed n d low kind small))

    now : IsFollowedBelow users own object places (get_or places at d) 128
    now =
        let stands = at_position front place d at is in
        rw (same at stands.0, stands.1) here

-- a list is no shorter than its front
pub front_shorter : {X : Type 0} (list front : List X) → HasFront list front → length front ≤ length list
front_shorter list front begins = rw (begins.all, length-append front begins.more) (omega arith)

-- no element stands past the end
pub none_from : {X : Type 0} (xs : List X) (at : ℕ) → None ≡ slice_get xs at → length xs ≤ at
none_from [] at none = omega arith
none_from (x ∷ xs) zero none = cc
none_from (x ∷ xs) (suc at) none = let rest : length xs ≤ at = none_from xs at none in omega arith

-- steps that are followed below a bound from which on there are none
pub followed_all : (users : List UserRole) (own object : List Bool) (places : List Place) (place : Place) (k bound : ℕ) → bound ≤ k → AreBelow own bound → AreBelow object bound → IsFollowedBelow users own object places place k → IsFollowedBelow users own object places place 128
followed_all users own object places place k bound past to_own to_object followed kind small =
    ⊎_elim
    (λ low. followed kind low)
    (λ high.
    let none : is_marked own place.kind kind ≡ false = to_own.none place.kind kind (omega arith) small in
    let neither : is_marked object place.kind kind ≡ false = to_object.none place.kind kind (omega arith) small in
    record { to_own = λ marked. cc; to_object = λ marked. cc })
    (cases_lt kind k)
