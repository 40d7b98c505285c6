-- Sorted lists whose members differ are strictly sorted.
use Rattle.std.proofs.Common.{◌≡◌, ◌<◌, ◌+◌, ℕ, suc, false, List, [], ◌∷◌, length, get_or, map, refl, arith}
use Rattle.std.specs.Ordering.{is_lt, ordering_then, ordering_reverse, nat_cmp}
use Rattle.std.specs.declared.cmp.Ordering.{Ordering}
use Rattle.std.specs.declared.cmp.Ordering.TheVariants.{Less, Equal, Greater}
use Rattle.std.specs.Cmp.{IsTotalOrder}
use Rattle.std.specs.Cmp.Lexicographic.{slice_cmp}
use Rattle.std.specs.List.{All}
use Rattle.std.specs.List.Sorted.{IsSorted, IsStrictlySortedBy}
use Rattle.std.proofs.lemmas.List.{get_or-map, length-map}
use Rattle.std.proofs.lemmas.List.Sorted.{sorted_far, ranks_by}
use Rattle.std.proofs.lemmas.List.Elements.{recursion_from_All}
use Rattle.flask_sid.specs.Contexts.{context_text}
use Rattle.policy_model.specs.declared.policy.PolicyParts.{PolicyParts}
use Rattle.policy_versions.specs.Numbers.{context_at}
use Rattle.policy_versions.specs.Orders.{place_at, IsTexted, AreInTextOrder}
use Rattle.policy_versions.specs.declared.user_role.UserRole.{UserRole}
use Rattle.policy_versions.specs.declared.place.Place.{Place}
use Rattle.policy_versions.specs.declared.order.Texted.{Texted}

-- an order that is neither falling nor a tie rises
rises : (there back : Ordering) → there ≡ ordering_reverse back → is_lt back ≡ false → (there ≡ Equal → ⊥) → there ≡ Less
rises Less back turned up apart = refl
rises Equal back turned up apart = absurd (apart refl)
rises Greater Less turned up apart = cc
rises Greater Equal turned up apart = cc
rises Greater Greater turned up apart = cc

suc-plus : (k : ℕ) → suc k + 1 ≡ suc (k + 1)
suc-plus k = omega arith

-- a sorted list without ties
pub strictly_sorted : {X : Type 0} (R : X → X → Ordering) → IsTotalOrder R → (xs : List X) → IsSorted R xs → ((i j : ℕ) (d : X) → i < j → j < length xs → R (get_or xs i d) (get_or xs j d) ≡ Equal → ⊥) → IsStrictlySortedBy R xs
unfolding IsStrictlySortedBy
strictly_sorted R o [] sorted apart = tt
strictly_sorted {X} R o (x ∷ xs) sorted apart = (
  recursion_from_All (λ y. R x y ≡ Less) xs (λ k d within.
      rises (R x (get_or xs k d)) (R (get_or xs k d) x) (o.antisymm x (get_or xs k d))
      (sorted_far (λ a b. is_lt (R a b)) (ranks_by o (λ (y : X). y)) (x ∷ xs) sorted 0 (suc k) d (omega arith) (omega arith))
      (apart 0 (suc k) d (omega arith) (omega arith))),
  strictly_sorted R o xs (λ k d low within. (let up : is_lt (R (get_or (x ∷ xs) (suc k + 1) d) (get_or (x ∷ xs) (suc k) d)) ≡ false = sorted (suc k) d (omega arith) (omega arith) in rw (suc-plus k) at up)) (λ i j d before within. apart (suc i) (suc j) d (omega arith) (omega arith)),
)

-- the order of texts and positions
abbrev pub texted_order : Texted → Texted → Ordering
texted_order a b = ordering_then (slice_cmp nat_cmp a.text.items b.text.items) (nat_cmp a.at b.at)

-- what does not come before by text and position does not by text
not_before : (first then : Ordering) → is_lt (ordering_then first then) ≡ false → is_lt first ≡ false
not_before Less then up = up
not_before Equal then up = refl
not_before Greater then up = refl

-- places in the order of texts and positions are in the order of texts
pub texts_in_order : (policy : PolicyParts) (users : List UserRole) (places : List Place) (texted : List Texted) → All (IsTexted policy users places) texted → IsSorted texted_order texted → AreInTextOrder policy users (map (λ (one : Texted). place_at places one.at) texted)
texts_in_order policy users places [] texts sorted k d low within = absurd (omega arith)
texts_in_order policy users places (t ∷ ts) texts sorted k d low within =
    let f : Texted → Place = λ (one : Texted). place_at places one.at in
    let many : k + 1 < length (t ∷ ts) = rw length-map at within in
    let of_k : k < length (t ∷ ts) = omega arith in
    let a : Texted = get_or (t ∷ ts) (k + 1) t in
    let b : Texted = get_or (t ∷ ts) k t in
    let up : is_lt (slice_cmp nat_cmp a.text.items b.text.items) ≡ false = not_before _ _ (sorted k t low many) in
    let text_a : a.text.items ≡ context_text (context_at policy users (f a).row (f a).kind) = (texts (k + 1) t many).text_is in
    let text_b : b.text.items ≡ context_text (context_at policy users (f b).row (f b).kind) = (texts k t of_k).text_is in
    rw (get_or-map f (t ∷ ts) (k + 1) t d many, get_or-map f (t ∷ ts) k t d of_k) (rw (text_a, text_b) at up)
