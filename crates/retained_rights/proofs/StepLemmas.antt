-- How rights stay in step with a store of objects.
use Rattle.std.proofs.Common.{◌≡◌, ℕ, ◌<◌, Bool, true, false, cond, not, eqb, Option, None, Some, refl, sym, ap, subst, ◌∙◌, inl, inr}
use Rattle.std.specs.Prelude.{◌==◌, if◌then◌else◌}
use Rattle.std.specs.Ordering.{nat_cmp}
use Rattle.std.specs.FinMap as maps
use Rattle.std.proofs.lemmas.Bool.{cases_eq, eq-eqb, ne_eqb, false≢true}
use Rattle.access_vectors.specs.declared.class.Class.{Class}
use Rattle.slot_tables.proofs.SlotLemmas.{get-put, get-taken}
use Rattle.retained_rights.specs.declared.rule.Rule.{Rule}
use Rattle.retained_rights.specs.Rights.{Rights, no_rights}
use Rattle.retained_rights.specs.Claims.{Claim, Claims, claims_of, is_for, not_for, all_relabelled, AreClaims, AreInStep}
use Rattle.retained_rights.proofs.MapLemmas.{some_same, none_some, mapped-empty, kept_some, mapped_some}

-- no slot is used
none_claimed : (IsClaim : ℕ → Claim → Type 0) → AreClaims IsClaim maps.empty
none_claimed IsClaim place claim is = absurd (none_some claim (sym (maps.get-empty nat_cmp place) ∙ is))

pub step_new : (rule : Rule) (class : Class) (IsClaim : ℕ → Claim → Type 0) → AreInStep rule class IsClaim (no_rights rule class)
step_new rule class IsClaim =
    record { claims = subst (AreClaims IsClaim) (sym (mapped-empty _)) (none_claimed IsClaim); rule_is = refl; class_is = refl }

module _ {rule : Rule} {class : Class} {IsClaim : ℕ → Claim → Type 0} {rights : Rights} (step : AreInStep rule class IsClaim rights) where
  -- where the store says something else of each slot
  pub step_as : (IsNow : ℕ → Claim → Type 0) → ((place : ℕ) (claim : Claim) → IsClaim place claim → IsNow place claim) → AreInStep rule class IsNow rights
  step_as IsNow now = record { claims = λ place claim at. now place claim (step.claims place claim at); rule_is = step.rule_is; class_is = step.class_is }

  module _ (now : Rights) (rule_same : now.rule ≡ rights.rule) (class_same : now.class ≡ rights.class) where
    changed : (IsNow : ℕ → Claim → Type 0) (claims : Claims) → claims_of now ≡ claims → AreClaims IsNow claims → AreInStep rule class IsNow now
    changed IsNow claims is are =
        record { claims = subst (AreClaims IsNow) (sym is) are; rule_is = rule_same ∙ step.rule_is; class_is = class_same ∙ step.class_is }

    -- where the slots are for what they were
    pub step_kept : claims_of now ≡ claims_of rights → AreInStep rule class IsClaim now
    step_kept is = changed IsClaim (claims_of rights) is step.claims

    -- a slot filled
    pub step_filled : (IsNow : ℕ → Claim → Type 0) (at : ℕ) (filling : Claim) → claims_of now ≡ maps.insert (claims_of rights) at filling
        → ((place : ℕ) (claim : Claim) → IsClaim place claim → IsNow place claim) → IsNow at filling → AreInStep rule class IsNow now
    step_filled IsNow at filling is others new = changed IsNow (maps.insert (claims_of rights) at filling) is (λ place claim used. elim (cases_eq place at) [
      | inl same ↦ subst (λ q. IsNow q claim) (sym same)
          (subst (IsNow at) (some_same filling claim (sym (ap (λ t. cond t (Some filling) (maps.get (claims_of rights) place)) (eq-eqb place at same)) ∙ sym (get-put (claims_of rights) at filling place) ∙ used)) new)
      | inr apart ↦ others place claim
          (step.claims place claim (sym (ap (λ t. cond t (Some filling) (maps.get (claims_of rights) place)) (ne_eqb place at apart)) ∙ sym (get-put (claims_of rights) at filling place) ∙ used))
    ])

    -- a slot freed
    pub step_freed : (at : ℕ) → claims_of now ≡ maps.remove (claims_of rights) at → AreInStep rule class IsClaim now
    step_freed at is = changed IsClaim (maps.remove (claims_of rights) at) is (λ place claim used. stays place claim (eqb place at) (sym (get-taken (claims_of rights) at place) ∙ used))
      where
        stays : (place : ℕ) (claim : Claim) (t : Bool) → cond t None (maps.get (claims_of rights) place) ≡ Some claim → IsClaim place claim
        stays place claim true used = absurd (none_some claim used)
        stays place claim false used = step.claims place claim used

    -- the object's slots freed
    pub step_without : (IsNow : ℕ → Claim → Type 0) (object : ℕ) → claims_of now ≡ not_for object (claims_of rights) (claims_of rights)
        → ((place : ℕ) (claim : Claim) → (claim.object ≡ object → ⊥) → IsClaim place claim → IsNow place claim) → AreInStep rule class IsNow now
    step_without IsNow object is others = changed IsNow (not_for object (claims_of rights) (claims_of rights)) is (λ place claim used.
        let was = kept_some (claims_of rights) (λ q. not (is_for object (maps.get (claims_of rights) q))) place claim used in
        others place claim (off place claim was.1 was.0) (step.claims place claim was.1))
      where
        off : (place : ℕ) (claim : Claim) → maps.get (claims_of rights) place ≡ Some claim → not (is_for object (maps.get (claims_of rights) place)) ≡ true → claim.object ≡ object → ⊥
        off place claim at stay same = false≢true (sym (ap (λ o. not (is_for object o)) at ∙ ap not (eq-eqb claim.object object same)) ∙ stay)

    -- the object's slots with another label
    pub step_relabelled : (IsNow : ℕ → Claim → Type 0) (object t : ℕ) → claims_of now ≡ all_relabelled object t (claims_of rights)
        → ((place : ℕ) (claim : Claim) → claim.object ≡ object → IsClaim place claim → IsNow place (record { object = claim.object; mode = claim.mode; s = claim.s; t = t }))
        → ((place : ℕ) (claim : Claim) → (claim.object ≡ object → ⊥) → IsClaim place claim → IsNow place claim) → AreInStep rule class IsNow now
    step_relabelled IsNow object t is here others = changed IsNow (all_relabelled object t (claims_of rights)) is (λ place claim used.
        let was = mapped_some (λ q (one : Claim). if one.object == object then record { object = one.object; mode = one.mode; s = one.s; t = t } else one) (claims_of rights) place claim used in
        subst (IsNow place) was.2 (either place was.0 (step.claims place was.0 was.1)))
      where
        either : (place : ℕ) (claim : Claim) → IsClaim place claim
            → IsNow place (if claim.object == object then record { object = claim.object; mode = claim.mode; s = claim.s; t = t } else claim)
        either place claim was = elim (cases_eq claim.object object) [
          | inl same ↦ subst (λ (b : Bool). IsNow place (if b then record { object = claim.object; mode = claim.mode; s = claim.s; t = t } else claim)) (sym (eq-eqb claim.object object same)) (here place claim same was)
          | inr apart ↦ subst (λ (b : Bool). IsNow place (if b then record { object = claim.object; mode = claim.mode; s = claim.s; t = t } else claim)) (sym (ne_eqb claim.object object apart)) (others place claim apart was)
        ]
