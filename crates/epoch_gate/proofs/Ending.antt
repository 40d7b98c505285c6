-- How a gate begins, and what its end gives.
use Rattle.std.proofs.Common.{◌≡◌, ℕ, zero, suc, ◌<◌, ◌≤◌, false, List, [], ◌∷◌, length, get_or, replicate, sym, refl, ap, ◌∙◌, subst, Option, Some, arith}
use Rattle.std.proofs.lemmas.Bool.Decides.{nat_tests}
use mathlib.Core.Option.{some, some-injective}
use mathlib.Core.Option as maybe
use lib.ListN.{get_elem?, length-replicate}
use Rattle.atomic_table.specs.Table.{Final, Seen, State, opening}
use Rattle.access_vectors.specs.Decisions.{Decisions, IsClosed}
use Rattle.gate_rule.specs.declared.view.Role.TheVariants.{Admin}
use Rattle.gate_rule.specs.declared.view.Ticket.TheVariants.{Without}
use Rattle.gate_rule.specs.declared.view.Fixed.{Fixed}
use Rattle.gate_rule.specs.declared.view.View.{View}
use Rattle.gate_rule.specs.declared.journal.Terms.{Terms}
use Rattle.gate_rule.specs.Meaning.{Means}
use Rattle.gate_rule.specs.Views.{first_seat}
use Rattle.gate_rule.specs.Rule.{RuleHolds, fixed_of}
use Rattle.gate_rule.specs.Told.{Closes}
use Rattle.gate_rule.proofs.Seating as seating
use Rattle.epoch_gate.specs.Opening.{is_outside}

pub inside : (n most : ℕ) → is_outside n most ≡ false → (0 < n) × (n ≤ most)
inside n most h = (grind (arith, nat_tests), grind (arith, nat_tests))

zeros : (n i : ℕ) → get_or (replicate n zero) i zero ≡ zero
zeros zero i = refl
zeros (suc n) zero = refl
zeros (suc n) (suc i) = zeros n i

module _ {V E D O : Type 0} (M : Means V E D O) (decides : D → Decisions) (k : Terms V D) where
  -- the table at the start meets the rule
  pub opened : (ws : List ℕ) (xs : List (Option V)) (x : V) → ws ≡ replicate 517 zero → xs ≡ Some x ∷ [] → k.first.value ≡ x → (d : D) → k.decider.value ≡ d → M.history x ≡ [] → M.decider x ≡ d → M.promise (M.opening x) d [] → M.keeps x
      → IsClosed (decides d) → k.seats ≤ 64 → k.quota ≤ 536870912 → k.most ≤ 1048575 → RuleHolds M decides k (opening ws xs (first_seat (fixed_of M k)))
  opened ws xs x zero_words one first d named fresh decider promise keeps closed seats quota most =
      subst (λ (l : List (Option V)). RuleHolds M decides k (opening ws l (first_seat (fixed_of M k)))) (sym one)
      (seating.opens M decides k ws x (ap length zero_words ∙ length-replicate 517 zero) (λ i. ap (λ (l : List ℕ). get_or l i 0) zero_words ∙ zeros 517 i) (sym first) fresh (decider ∙ sym named)
      (subst (λ (y : D). M.promise (M.opening x) y []) (sym named) promise) keeps
      (subst (λ (y : D). (0 < (decides y).versions) × ((decides y).versions ≤ 256)) (sym named) (closed.some_version, closed.few_versions)) seats quota (omega arith))

  module _ (id : ℕ) (v v' : View E D O) (ws : List ℕ) (xs : List (Option V)) (end : Final (Seen (RuleHolds M decides k) id v) ws xs) (same : v ≡ v') where
    -- the slot has the value, of which the administrator knows this
    pub ended : v.role ≡ Admin → v'.ticket ≡ Without → v'.admin_view.made ≡ length v'.admin_view.ended → (slot : Option V) → get_elem? xs 0 ≡ some slot → (x : V) × (slot ≡ Some x) × Closes M v' x
    ended is idle all slot there =
        let w = seating.ends M decides k end.0 end.1.0 id v end.1.1 is (ap (λ (x : View E D O). x.ticket) same ∙ idle)
        (ap (λ (x : View E D O). x.admin_view.made) same ∙ (all ∙ ap (λ (x : View E D O). length x.admin_view.ended) (sym same))) in
        let home : get_elem? xs 0 ≡ some (Some w.0) = end.4 0 (Some w.0) (ap (λ (hs : List (maybe.Option (Option V))). get_elem? hs 0) w.1) in
        (w.0, some-injective slot (Some w.0) (sym there ∙ home), subst (λ (x : View E D O). Closes M x w.0) same w.2)

    -- the rule held to the end
    pub has_ended : (f : Fixed D O) → fixed_of M k ≡ f → (key : Terms V D) × (s : State (Option V) (View E D O)) × (at : ℕ) × RuleHolds M decides key s × (fixed_of M key ≡ f) × (get_elem? s.views at ≡ some v')
    has_ended f fixed = (k, end.0, id, end.1.0, fixed, end.1.1 ∙ ap some same)
