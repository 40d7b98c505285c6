-- Closed sets of places: they are those of the contexts to which the policy leads.
use Rattle.std.proofs.Common.{◌≡◌, ◌<◌, ◌∙◌, inl, inr, ℕ, Bool, true, false, cond, eqb, List, length, get_or, Option, Some, None, refl, sym, ap, subst, arith}
use Rattle.std.specs.Prelude.{unwrap_or, IfSome}
use Rattle.std.specs.List.{All, Contains}
use Rattle.std.proofs.lemmas.Bool.{eqb-true}
use Rattle.std.proofs.lemmas.List.{get_or-map, length-map}
use Rattle.std.proofs.lemmas.List.Folds.{Any-from_list_any}
use Rattle.std.proofs.lemmas.List.Sums.{AllPass-from_list_all}
use Rattle.flask_sid.specs.declared.context.ContextOf.{ContextOf}
use Rattle.access_vectors.specs.declared.class.Class.{Class}
use Rattle.policy_model.specs.declared.policy.PolicyParts.{PolicyParts}
use Rattle.policy_model.specs.declared.policy.Labelling.TheVariants.{Transition, Member}
use Rattle.policy_model.specs.Deciding.{label_of, member_of, takes_after_maker}
use Rattle.policy_model.specs.Kept.{IsWholePolicy}
use Rattle.policy_versions.specs.Closure.{IsDerivable, declared, label, member, declared_contexts}
use Rattle.policy_versions.specs.Numbers.{has_place, is_marked, object_row, AreRows, context_at, made_kind, made_row, Derives, IsPresent}
use Rattle.policy_versions.specs.Gives.{GivenPlaces, AreGiven}
use Rattle.policy_versions.specs.Users.{HasFront}
use Rattle.policy_versions.specs.Steps.{TakesClass, TakesVersions, GivesOwn, GivesObject, AreDue, IsFollowedTo}
use Rattle.policy_versions.specs.Founds.{IsInside, Leads, begun, to_own, to_object, AreFollowed, has_kind, are_present}
use Rattle.policy_versions.specs.Closing.{contexts_of, AllDerive, HasContext}
use Rattle.policy_versions.specs.declared.user_role.UserRole.{UserRole}
use Rattle.policy_versions.specs.declared.place.Place.{Place}
use Rattle.policy_versions.proofs.KindLemmas.{kinds_few}
use Rattle.policy_versions.proofs.ContextLemmas.{label_at, member_itself, member_at, place_declared}
use Rattle.policy_versions.proofs.FoundLemmas.{has_front, stands_at, all_has, has_at}

-- a type that is made is a declared one
module _ (policy : PolicyParts) (given : GivenPlaces) (are : AreGiven policy given) (version s t : ℕ) (of_s : s < length policy.kinds) (of_t : t < length policy.kinds) where
  pub made_declared : (class : Class) → made_kind given version s t class < length policy.kinds
  made_declared class = by_place (given Transition version s t class) (are Transition version s t class of_s of_t).declared
    where
      other : cond (takes_after_maker class) s t < length policy.kinds
      other = elim (takes_after_maker class) as (λ b. cond b s t < length policy.kinds) [ true ↦ of_s | false ↦ of_t ]

      by_place : (place : Option ℕ) → IfSome place (λ at. at < length policy.kinds) → unwrap_or place (cond (takes_after_maker class) s t) < length policy.kinds
      by_place None is = other
      by_place (Some k) is = is

  pub member_declared : (class : Class) (kind : ℕ) → given Member version s t class ≡ Some kind → kind < length policy.kinds
  member_declared class kind gives =
      subst (λ place. IfSome place (λ at. at < length policy.kinds)) gives (are Member version s t class of_s of_t).declared

-- a row and a type in the table, to whose context the policy leads
pub record IsGood (policy : PolicyParts) (users : List UserRole) (row kind : ℕ) : Type 0 where
  pub within : row < length users
  pub small : kind < 128
  pub derives : Derives policy users row kind

-- a step from a context to which the policy leads, for a target that it leads to
module _ (policy : PolicyParts) (users : List UserRole) (kept : IsWholePolicy policy) (rows : AreRows users) (given : GivenPlaces) (are : AreGiven policy given) where
  own_derives : (version row s t kind : ℕ) → version < length policy.versions → row < length users → Derives policy users row s → IsPresent policy users t → GivesOwn given version s t kind → Derives policy users row kind
  own_derives version row s t kind below within derives is gives =
      let made : Derives policy users (made_row users row gives.class) (made_kind given version s t gives.class) = subst (IsDerivable policy) (sym (label_at policy users given are rows version row s is.row t within (place_declared policy kept users row s derives) (place_declared policy kept users is.row t is.derives) gives.class)) (label version _ _ gives.class below derives is.derives) in
      let of_kind : Derives policy users (made_row users row gives.class) kind = subst (λ k. Derives policy users (made_row users row gives.class) k) gives.made made in
      subst (λ b. Derives policy users (cond b row (object_row users row)) kind) gives.takes_after of_kind

  object_derives : (version row s t kind : ℕ) → version < length policy.versions → row < length users → Derives policy users row s → IsPresent policy users t → GivesObject given version s t kind → Derives policy users (object_row users row) kind
  object_derives version row s t kind below within derives is (inl gives) =
      let made : Derives policy users (made_row users row gives.class) (made_kind given version s t gives.class) = subst (IsDerivable policy) (sym (label_at policy users given are rows version row s is.row t within (place_declared policy kept users row s derives) (place_declared policy kept users is.row t is.derives) gives.class)) (label version _ _ gives.class below derives is.derives) in
      let of_kind : Derives policy users (made_row users row gives.class) kind = subst (λ k. Derives policy users (made_row users row gives.class) k) gives.made made in
      subst (λ b. Derives policy users (cond b row (object_row users row)) kind) gives.takes_after of_kind
  object_derives version row s t kind below within derives is (inr gives) =
      subst (IsDerivable policy) (member_at policy users given are rows version row s is.row t within (place_declared policy kept users row s derives) (place_declared policy kept users is.row t is.derives) gives.class kind gives.gives) (member version _ _ gives.class below derives is.derives)

  pub led_good : (present own object : List Bool) (start : List Place) → AreDue given (length policy.versions) present own object → ((t : ℕ) → t < 128 → is_marked present 0 t ≡ true → IsPresent policy users t) → ((row kind : ℕ) → has_place start row kind ≡ true → IsGood policy users row kind) → (row kind : ℕ) → Leads users own object start row kind → IsGood policy users row kind
  led_good present own object start due is good _ _ (begun row kind has) = good row kind has
  led_good present own object start due is good _ _ (to_own row s kind leads small marked) =
      let before : IsGood policy users row s = led_good present own object start due is good row s leads in
      let step = due.to_own s kind before.small small marked in
      record {
        within = before.within;
        small = small;
        derives = own_derives step.version row s step.target kind step.below before.within before.derives (is step.target step.small step.is_present) step.gives;
      }
  led_good present own object start due is good _ _ (to_object row s kind leads small marked) =
      let before : IsGood policy users row s = led_good present own object start due is good row s leads in
      let step = due.to_object s kind before.small small marked in
      record {
        within = (rows.objects row before.within).within;
        small = small;
        derives = object_derives step.version row s step.target kind step.below before.within before.derives (is step.target step.small step.is_present) step.gives;
      }

-- the type of each place is marked
pub present_at : (present : List Bool) (places : List Place) → are_present present places ≡ true → (row kind : ℕ) → has_place places row kind ≡ true → is_marked present 0 kind ≡ true
unfolding are_present
present_at present places all row kind has = all_has (λ r k. is_marked present 0 k ≡ true) places (AllPass-from_list_all (λ (place : Place). is_marked present 0 place.kind) places all) row kind has

-- places whose steps are followed, for present types that are all of theirs, have all contexts to which the policy leads
module _ (policy : PolicyParts) (users : List UserRole) (kept : IsWholePolicy policy) (rows : AreRows users) (given : GivenPlaces) (are : AreGiven policy given) (present own object : List Bool) (start places : List Place)
    (begins : contexts_of policy users start ≡ declared_contexts policy) (front : HasFront places start) (inside : All (IsInside (length users)) places) (derive : AllDerive policy users places)
    (all : are_present present places ≡ true) (takes : TakesVersions given present (length policy.versions) own object)
    (followed : AreFollowed users own object places (length places)) where
  followed_at : (row s : ℕ) → has_place places row s ≡ true → (kind : ℕ) → kind < 128 → IsFollowedTo users own object places (record { row = row; kind = s }) kind
  followed_at row s has kind small =
      let stands = stands_at places row s has in
      let d : Place = record { row = row; kind = s } in
      subst (λ (place : Place). IsFollowedTo users own object places place kind) (stands.is d) (followed stands.at d stands.within kind small)

  -- a context at a place
  at_place : (row kind : ℕ) → has_place places row kind ≡ true → (context : ContextOf (List ℕ)) → context_at policy users row kind ≡ context → HasContext policy users places context
  at_place row kind has context is =
      let in_table : (row < length users) × (kind < 128) = all_has (λ r k. (r < length users) × (k < 128)) places (λ k d within. ((inside k d within).row, (inside k d within).kind)) row kind has in
      record { row = row; kind = kind; within = in_table.0; small = in_table.1; has = has; is = is }

  -- the type of a context that has a place is declared
  known : (context : ContextOf (List ℕ)) (has : HasContext policy users places context) → has.kind < length policy.kinds
  known context has = place_declared policy kept users has.row has.kind (all_has (λ r k. Derives policy users r k) places derive has.row has.kind has.has)

  below_128 : {n : ℕ} → n < length policy.kinds → n < 128
  below_128 within = let few = kinds_few policy kept in omega arith

  has_declared : (context : ContextOf (List ℕ)) → Contains (declared_contexts policy) context → HasContext policy users places context
  has_declared context contains =
      let among : Contains (contexts_of policy users start) context = subst (λ contexts. Contains contexts context) (sym begins) contains in
      let d : Place = record { row = 0; kind = 0 } in
      let within : among.0 < length start = rw length-map at among.1 in
      let place : Place = get_or start among.0 d in
      let is : context_at policy users place.row place.kind ≡ context = sym (get_or-map (λ (one : Place). context_at policy users one.row one.kind) start among.0 d context within) ∙ among.2 in
      at_place place.row place.kind (has_front places start front place.row place.kind (has_at start among.0 d within)) context is

  has_label : (version : ℕ) (s t : ContextOf (List ℕ)) (class : Class) → version < length policy.versions → HasContext policy users places s → HasContext policy users places t → HasContext policy users places (label_of policy version s t class)
  has_label version s t class below of_s of_t =
      let made : ℕ = made_kind given version of_s.kind of_t.kind class in
      let small : made < 128 = below_128 (made_declared policy given are version of_s.kind of_t.kind (known s of_s) (known t of_t) class) in
      let taken : TakesClass given version of_s.kind of_t.kind class own object = takes version below of_s.kind of_s.small (present_at present places all of_s.row of_s.kind of_s.has) of_t.kind of_t.small (present_at present places all of_t.row of_t.kind of_t.has) class in
      let steps : IsFollowedTo users own object places (record { row = of_s.row; kind = of_s.kind }) made = followed_at of_s.row of_s.kind of_s.has made small in
      let has : has_place places (made_row users of_s.row class) made ≡ true =
      elim (takes_after_maker class) as (λ b. is_marked (cond b own object) of_s.kind made ≡ true → has_place places (cond b of_s.row (object_row users of_s.row)) made ≡ true) [
        | true ↦ steps.to_own
        | false ↦ steps.to_object
      ] taken.label in
      at_place (made_row users of_s.row class) made has (label_of policy version s t class)
      (label_at policy users given are rows version of_s.row of_s.kind of_t.row of_t.kind of_s.within (known s of_s) (known t of_t) class
      ∙ ap (λ c. label_of policy version c (context_at policy users of_t.row of_t.kind) class) of_s.is
      ∙ ap (λ c. label_of policy version s c class) of_t.is)

  member_same : (version : ℕ) (s t : ContextOf (List ℕ)) (class : Class) (of_s : HasContext policy users places s) (of_t : HasContext policy users places t) → member_of policy version (context_at policy users of_s.row of_s.kind) (context_at policy users of_t.row of_t.kind) class ≡ member_of policy version s t class
  member_same version s t class of_s of_t =
      ap (λ c. member_of policy version c (context_at policy users of_t.row of_t.kind) class) of_s.is ∙ ap (λ c. member_of policy version s c class) of_t.is

  has_member : (version : ℕ) (s t : ContextOf (List ℕ)) (class : Class) → version < length policy.versions → HasContext policy users places s → HasContext policy users places t → HasContext policy users places (member_of policy version s t class)
  has_member version s t class below of_s of_t = by_given _ refl
    where
      by_given : (place : Option ℕ) → given Member version of_s.kind of_t.kind class ≡ place → HasContext policy users places (member_of policy version s t class)
      by_given None none =
          at_place of_t.row of_t.kind of_t.has _ (sym (member_itself policy users given are rows version of_s.row of_s.kind of_t.row of_t.kind of_s.within (known s of_s) (known t of_t) class none) ∙ member_same version s t class of_s of_t)
      by_given (Some kind) gives =
          let small : kind < 128 = below_128 (member_declared policy given are version of_s.kind of_t.kind (known s of_s) (known t of_t) class kind gives) in
          let taken : TakesClass given version of_s.kind of_t.kind class own object = takes version below of_s.kind of_s.small (present_at present places all of_s.row of_s.kind of_s.has) of_t.kind of_t.small (present_at present places all of_t.row of_t.kind of_t.has) class in
          let steps : IsFollowedTo users own object places (record { row = of_s.row; kind = of_s.kind }) kind = followed_at of_s.row of_s.kind of_s.has kind small in
          at_place (object_row users of_s.row) kind (steps.to_object (taken.member kind gives)) _ (sym (member_at policy users given are rows version of_s.row of_s.kind of_t.row of_t.kind of_s.within (known s of_s) (known t of_t) class kind gives) ∙ member_same version s t class of_s of_t)

  pub has_all : (context : ContextOf (List ℕ)) → IsDerivable policy context → HasContext policy users places context
  has_all _ (declared context contains) = has_declared context contains
  has_all _ (label version s t class below of_s of_t) = has_label version s t class below (has_all s of_s) (has_all t of_t)
  has_all _ (member version s t class below of_s of_t) = has_member version s t class below (has_all s of_s) (has_all t of_t)

-- the declared contexts are good places
pub begun_good : (policy : PolicyParts) (users : List UserRole) (places : List Place) → contexts_of policy users places ≡ declared_contexts policy → All (IsInside (length users)) places → (row kind : ℕ) → has_place places row kind ≡ true → IsGood policy users row kind
begun_good policy users places begins inside = all_has (IsGood policy users) places (λ k d within.
    let place : Place = get_or places k d in
    let f : Place → ContextOf (List ℕ) = λ one. context_at policy users one.row one.kind in
    let among : Contains (contexts_of policy users places) (context_at policy users place.row place.kind) = (k, rw length-map within, get_or-map f places k d (context_at policy users place.row place.kind) within) in
    record {
      within = (inside k d within).row;
      small = (inside k d within).kind;
      derives = declared _ (subst (λ contexts. Contains contexts (context_at policy users place.row place.kind)) begins among);
    })

-- a type that a good place has is present
kind_present : (policy : PolicyParts) (users : List UserRole) (places : List Place) → ((row kind : ℕ) → has_place places row kind ≡ true → IsGood policy users row kind) → (t : ℕ) → has_kind places t ≡ true → IsPresent policy users t
unfolding has_kind
kind_present policy users places good t has =
    let found = Any-from_list_any (λ (place : Place). eqb place.kind t) places has in
    let here : has_place places (get_or places found.0 found.1).row (get_or places found.0 found.1).kind ≡ true = has_at places found.0 found.1 found.2 in
    let at : has_place places found.1.row found.1.kind ≡ true = subst (λ (place : Place). has_place places place.row place.kind ≡ true) found.3 here in
    let is : IsGood policy users found.1.row found.1.kind = good found.1.row found.1.kind at in
    record { row = found.1.row; within = is.within; derives = subst (λ k. Derives policy users found.1.row k) (eqb-true _ _ found.4) is.derives }

-- after a round all places are good
pub round_good : (policy : PolicyParts) (users : List UserRole) → IsWholePolicy policy → AreRows users → (given : GivenPlaces) → AreGiven policy given → (versions : ℕ) → versions ≡ length policy.versions → (present own object : List Bool) (start : List Place) → AreDue given versions present own object → ((kind : ℕ) → kind < 128 → is_marked present 0 kind ≡ has_kind start kind) → ((row kind : ℕ) → has_place start row kind ≡ true → IsGood policy users row kind) → (row kind : ℕ) → Leads users own object start row kind → IsGood policy users row kind
round_good policy users kept rows given are versions of present own object start due shows good row kind leads =
    led_good policy users kept rows given are present own object start
    (subst (λ n. AreDue given n present own object) of due)
    (λ t small marked. kind_present policy users start good t (sym (shows t small) ∙ marked))
    good row kind leads
