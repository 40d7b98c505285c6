-- Rounds of the closing: each but the last finds a new type, and places that are too many are contexts that are too many.
use Rattle.std.proofs.Common.{◌≡◌, ◌<◌, ◌+◌, ◌∙◌, ℕ, Bool, true, false, eqb, List, [], ◌∷◌, ◌++◌, length, get_or, refl, sym, ap, subst, arith, length-append}
use Rattle.std.specs.Prelude.{◌&&◌}
use Rattle.std.specs.List.{list_all, All, IsDistinct}
use Rattle.std.specs.Str.{bytes_eq}
use Rattle.std.proofs.lemmas.Bool.{and_parts, and_from, both_ways, false_from_ne_true, eq-eqb}
use Rattle.std.proofs.lemmas.List.{append-nil, get_or-map, length-map, length_push}
use Rattle.std.proofs.lemmas.List.Sums.{list_all-from_AllPass}
use Rattle.std.proofs.lemmas.List.Folds.{list_any_at}
use Rattle.std.proofs.lemmas.List.Elements.{All-push, All-map}
use Rattle.std.proofs.lemmas.Map.Keys.{IsDistinct-push, IsDistinct-from_apart, apart_from_distinct}
use Rattle.std.proofs.lemmas.Slice.Eq.{bytes_eq-Decides}
use Rattle.flask_sid.specs.declared.context.ContextOf.{ContextOf}
use Rattle.flask_sid.specs.SidTables.{is_same_context, AreDistinct}
use Rattle.policy_model.specs.declared.policy.PolicyParts.{PolicyParts}
use Rattle.policy_model.specs.Kept.{IsWholePolicy}
use Rattle.policy_versions.specs.Closure.{IsDerivable, HasTooMany}
use Rattle.policy_versions.specs.Numbers.{is_marked, AreRows, context_at, Derives}
use Rattle.policy_versions.specs.Users.{HasFront}
use Rattle.policy_versions.specs.Founds.{IsInside, is_same_place, has_kind, are_present, AllLed, Overflows, Leads}
use Rattle.policy_versions.specs.Closing.{contexts_of, AllDerive}
use Rattle.policy_versions.specs.declared.user_role.UserRole.{UserRole}
use Rattle.policy_versions.specs.declared.place.Place.{Place}
use Rattle.policy_versions.proofs.ContextLemmas.{one_context}
use Rattle.policy_versions.proofs.FoundLemmas.{same_place_equiv, apart}

-- the same context
pub same_context : (a b : ContextOf (List ℕ)) → is_same_context a b ≡ true → a ≡ b
same_context a b same =
    let parts = and_parts (bytes_eq a.user b.user) (bytes_eq a.role b.role && bytes_eq a.kind b.kind) same in
    let more = and_parts (bytes_eq a.role b.role) (bytes_eq a.kind b.kind) parts.1 in
    let user : a.user ≡ b.user = (bytes_eq-Decides _ _).0 parts.0 in
    let role : a.role ≡ b.role = (bytes_eq-Decides _ _).0 more.0 in
    let kind : a.kind ≡ b.kind = (bytes_eq-Decides _ _).0 more.1 in
    ap (λ u. record { user = u; role = a.role; kind = a.kind }) user ∙ ap (λ r. record { user = b.user; role = r; kind = a.kind }) role ∙ ap (λ k. record { user = b.user; role = b.role; kind = k }) kind

-- places of contexts to which the policy leads, all different
pub record AreGood (policy : PolicyParts) (users : List UserRole) (places : List Place) : Type 0 where
  pub inside : All (IsInside (length users)) places
  pub derive : AllDerive policy users places
  pub distinct : IsDistinct is_same_place places

-- their contexts are different
pub contexts_distinct : (policy : PolicyParts) (users : List UserRole) → IsWholePolicy policy → AreRows users → (places : List Place) → AreGood policy users places → AreDistinct (contexts_of policy users places)
contexts_distinct policy users kept rows places good = IsDistinct-from_apart is_same_context (contexts_of policy users places) (λ i j e before within.
    let d : Place = record { row = 0; kind = 0 } in
    let of_j : j < length places = rw length-map at within in
    let of_i : i < length places = omega arith in
    let p : Place = get_or places i d in
    let q : Place = get_or places j d in
    rw (get_or-map (λ (place : Place). context_at policy users place.row place.kind) places i d e of_i, get_or-map (λ (place : Place). context_at policy users place.row place.kind) places j d e of_j) (false_from_ne_true _ (λ same.
    let equal : context_at policy users p.row p.kind ≡ context_at policy users q.row q.kind = same_context _ _ same in
    let numbers = one_context policy users kept rows p.row p.kind q.row q.kind (good.inside i d of_i).row (good.inside j d of_j).row (good.derive i d of_i) (good.derive j d of_j) equal in
    let alike : is_same_place p q ≡ true = and_from (eqb q.row p.row) (eqb q.kind p.kind) (eq-eqb _ _ (sym numbers.0)) (eq-eqb _ _ (sym numbers.1)) in
    both_ways _ (apart_from_distinct is_same_place places i j d good.distinct before of_j) alike)))

-- as many places as identifiers, and one more
pub too_many : (policy : PolicyParts) (users : List UserRole) → IsWholePolicy policy → AreRows users → (own object : List Bool) (start places : List Place) → ((row kind : ℕ) → Leads users own object start row kind → Derives policy users row kind) → AllLed users own object start places → Overflows users own object start places → HasTooMany policy
too_many policy users kept rows own object start places leads led over =
    let place : Place = record { row = over.row; kind = over.kind } in
    let good : AreGood policy users (places ++ place ∷ []) = record {
      inside = All-push (IsInside (length users)) places place over.full.inside (record { row = over.within; kind = over.small });
      derive = All-push (λ (one : Place). Derives policy users one.row one.kind) places place (λ k d within. leads _ _ (led k d within)) (leads over.row over.kind over.led);
      distinct = IsDistinct-push same_place_equiv places place over.full.distinct (apart places place over.full.new);
    } in
    record {
      contexts = contexts_of policy users (places ++ place ∷ []);
      many = length-map (places ++ place ∷ []) (λ (one : Place). context_at policy users one.row one.kind) ∙ length_push places place ∙ ap (λ n. n + 1) over.full.full;
      distinct = contexts_distinct policy users kept rows (places ++ place ∷ []) good;
      sound = All-map (IsDerivable policy) (λ (one : Place). context_at policy users one.row one.kind) (places ++ place ∷ []) good.derive;
    }

-- the type of a place is that of some place
kind_at_place : (places : List Place) (k : ℕ) (d : Place) → k < length places → has_kind places (get_or places k d).kind ≡ true
unfolding has_kind
kind_at_place places k d within = list_any_at (λ (one : Place). eqb one.kind (get_or places k d).kind) places k d within (eq-eqb _ _ refl)

-- a round that finds a new type finds a place
pub grew : (rows : ℕ) (present : List Bool) (places front : List Place) → HasFront places front → All (IsInside rows) places → ((kind : ℕ) → kind < 128 → is_marked present 0 kind ≡ has_kind front kind) → are_present present places ≡ false → length front < length places
unfolding are_present
grew rows present places front begins inside shows some = by_more begins.more begins.all
  where
    by_more : (more : List Place) → places ≡ front ++ more → length front < length places
    by_more (place ∷ more) all = rw (all, length-append front (place ∷ more)) (omega arith)
    by_more [] all =
        let same : places ≡ front = all ∙ append-nil front in
        let marked : All (λ (one : Place). is_marked present 0 one.kind ≡ true) front = λ k d within.
        shows (get_or front k d).kind ((subst (All (IsInside rows)) same inside) k d within).kind ∙ kind_at_place front k d within in
        let whole : list_all (λ (one : Place). is_marked present 0 one.kind) places ≡ true = rw same (list_all-from_AllPass (λ (one : Place). is_marked present 0 one.kind) front marked) in
        absurd (both_ways _ some whole)
