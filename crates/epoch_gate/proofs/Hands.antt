-- Steps as the code makes them: the value in hand around an exchange of the slot, and a row that is filled.
use Rattle.std.proofs.Common.{◌≡◌, ℕ, ◌+◌, ◌%◌, ◌<◌, ◌≤◌, true, List, [], ◌∷◌, sym, ap, ◌∙◌, subst, Option, Some, None}
use mathlib.Core.Option.{none}
use Rattle.atomic_table.specs.Table.{Me, step, rest, Allows}
use Rattle.access_vectors.specs.Decisions.{Decisions}
use Rattle.gate_rule.specs.declared.view.Role.TheVariants.{Caller}
use Rattle.gate_rule.specs.declared.view.Key.{Key}
use Rattle.gate_rule.specs.declared.view.Fixed.{Fixed}
use Rattle.gate_rule.specs.declared.view.View.{View}
use Rattle.gate_rule.specs.declared.journal.Terms.{Terms}
use Rattle.gate_rule.specs.Meaning.{Means}
use Rattle.gate_rule.specs.Tickets.{has_turn}
use Rattle.gate_rule.specs.Rows.{IsKey}
use Rattle.gate_rule.specs.Views.{IsLive, took, gave}
use Rattle.gate_rule.specs.Rule.{RuleHolds, IsOf}
use Rattle.gate_rule.specs.Told.{Extends, Takes}
use Rattle.gate_rule.specs.Told as told
use Rattle.gate_rule.proofs.Serving.{turn_is}
use Rattle.gate_rule.proofs.Steps as kept
use Rattle.gate_rule.proofs.Giving as giving
use Rattle.epoch_gate.specs.Seats.{IsInside, IsRowFor}
use Rattle.epoch_gate.proofs.Passed.{inside_is}

-- what lies in the slot taken last
abbrev hand : {V : Type 0} → List (ℕ × Option V) → Option V
hand [] = None
hand (x ∷ xs) = x.1

module _ {V E D O : Type 0} (M : Means V E D O) where
  -- the slot that came with the turn, once its value is taken out
  pub taken : (v : View E D O) (ticket found : ℕ) (x value : V) (result : Option V) (m m' : Me (Option V) (View E D O)) → m ≡ (took M x v found, (0, Some x) ∷ []) → found ≡ ticket
      → m.1 ≡ (0, result) ∷ rest m.1 → m' ≡ (m.0, (0, None) ∷ rest m.1) → result ≡ Some value → Takes M v x → (m' ≡ (took M value v ticket, (0, None) ∷ [])) × Takes M v value
  taken v ticket found x value result m m' is same held after got told =
      let e : result ≡ Some x = ap hand (sym held ∙ ap (λ (y : Me (Option V) (View E D O)). y.1) is) in
      let value_is : x ≡ value = cc in
      (after ∙ ((λ i. ((is i).0, (0, None) ∷ rest ((is i).1))) ∙ (λ i. (took M (value_is i) v (same i), (0, None) ∷ []))), subst (Takes M v) value_is told)

module _ {V E D O : Type 0} (M : Means V E D O) (decides : D → Decisions) (k : Terms V D) where
  -- passing the turn on, after the value was put back
  pub give_after : (slots id : ℕ) (me me' : Me (Option V) (View E D O)) (y : V) → IsLive me.0.role → has_turn me.0.ticket ≡ true → me.1 ≡ (0, None) ∷ [] → me' ≡ (me.0, (0, Some y) ∷ rest me.1)
      → Extends M.kind me.0 (M.history y) → ((f : Fixed D O) → me.0.fixed ≡ Some f → IsOf M f y) → Allows (RuleHolds M decides k) slots id me' 4 (λ n. (n + 1) % 18446744073709551616) (told.gives M decides (step slots 4 1 0 none) me')
  give_after slots id me me' y alive turn empty after ext is_of =
      let same : me.0 ≡ me'.0 = sym (ap (λ (z : Me (Option V) (View E D O)). z.0) after) in
      let t = turn_is me.0.ticket turn in
      giving.give M decides k slots id me' t.0 y (subst (λ (v : View E D O). IsLive v.role) same alive) (ap (λ (v : View E D O). v.ticket) (sym same) ∙ t.1)
      (ap (λ (z : Me (Option V) (View E D O)). z.1) after ∙ ap (λ (l : List (ℕ × Option V)). (0, Some y) ∷ rest l) empty)
      (subst (λ (v : View E D O). Extends M.kind v (M.history y)) same ext) (subst (λ (v : View E D O). (f : Fixed D O) → v.fixed ≡ Some f → IsOf M f y) same is_of)

  -- what a seat knows after it
  pub given_after : (me me' m : Me (Option V) (View E D O)) (y : V) (n : ℕ) → me.1 ≡ (0, None) ∷ [] → me' ≡ (me.0, (0, Some y) ∷ rest me.1) → ((z : V) → me'.1 ≡ (0, Some z) ∷ [] → m ≡ (gave M z me'.0 n, [])) → m ≡ (gave M y me.0 m.0.trace.last.found, [])
  given_after me me' m y n empty after told =
      let same : me'.0 ≡ me.0 = ap (λ (z : Me (Option V) (View E D O)). z.0) after in
      let is = told y (ap (λ (z : Me (Option V) (View E D O)). z.1) after ∙ ap (λ (l : List (ℕ × Option V)). (0, Some y) ∷ rest l) empty) in
      let found : m.0.trace.last.found ≡ n = ap (λ (z : Me (Option V) (View E D O)). z.0.trace.last.found) is in
      is ∙ (λ i. (gave M y (same i) (sym found i), []))

  -- what the word showed then
  pub found_after : (me me' m : Me (Option V) (View E D O)) (y : V) (n : ℕ) → me.1 ≡ (0, None) ∷ [] → me' ≡ (me.0, (0, Some y) ∷ rest me.1) → ((z : V) → me'.1 ≡ (0, Some z) ∷ [] → m ≡ (gave M z me'.0 n, [])) → m.0.trace.last.found ≡ n
  found_after me me' m y n empty after told =
      ap (λ (z : Me (Option V) (View E D O)). z.0.trace.last.found) (told y (ap (λ (z : Me (Option V) (View E D O)). z.1) after ∙ ap (λ (l : List (ℕ × Option V)). (0, Some y) ∷ rest l) empty))

  -- looking at the row of the key that the step picks
  pub see : (slots id : ℕ) (me : Me (Option V) (View E D O)) (n : ℕ) → me.0.role ≡ Caller n → IsInside me.0.rights.pass → {sought : Key} (key : Key) → sought ≡ key → IsKey key
      → (i : ℕ) → 5 ≤ i → i < 517 → Allows (RuleHolds M decides k) slots id me i (λ w. w) (told.sees_row M decides sought (step slots i 0 0 none) me)
  see slots id me n is inside key same is_key i from to =
      subst (λ (x : Key). Allows (RuleHolds M decides k) slots id me i (λ w. w) (told.sees_row M decides x (step slots i 0 0 none) me)) (sym same)
      (kept.see_row M decides k slots id me n is _ _ (inside_is me.0.rights.pass inside) key is_key i from to)

  -- filling the row of the key that the step picks, with a word that is one for the pass and the key
  pub fill : (slots id : ℕ) (me : Me (Option V) (View E D O)) (n : ℕ) → me.0.role ≡ Caller n → IsInside me.0.rights.pass → {sought : Key} (key : Key) → sought ≡ key → IsKey key → (row : ℕ) → IsRowFor decides me.0 key row
      → (i : ℕ) → 5 ≤ i → i < 517 → Allows (RuleHolds M decides k) slots id me i (λ _. row) (told.fills_row M decides sought (step slots i row 0 none) me)
  fill slots id me n is inside key same is_key row h i from to =
      subst (λ (y : Key). Allows (RuleHolds M decides k) slots id me i (λ _. row) (told.fills_row M decides y (step slots i row 0 none) me)) (sym same)
      (subst (λ (x : ℕ). Allows (RuleHolds M decides k) slots id me i (λ _. x) (told.fills_row M decides key (step slots i x 0 none) me)) (sym h.1)
      (kept.fill_row M decides k slots id me n is _ _ (inside_is me.0.rights.pass inside) key is_key h.0 h.2 h.3 i from to))

module _ {V E D O : Type 0} (M : Means V E D O) (decides : D → Decisions) where
  -- what the look told, said of the key and of its word
  pub saw : (slots : ℕ) (me me' : Me (Option V) (View E D O)) (n : ℕ) {sought : Key} {i : ℕ} (key : Key) (word : ℕ) → sought ≡ key → i ≡ word → told.sees_row M decides sought (step slots i 0 0 none) me n me' → told.sees_row M decides key (step slots word 0 0 none) me n me'
  saw slots me me' n {sought} {i} key word same at h =
      subst (λ (x : Key). told.sees_row M decides x (step slots word 0 0 none) me n me') same (subst (λ (j : ℕ). told.sees_row M decides sought (step slots j 0 0 none) me n me') at h)

  -- what the fill told, said of the key and of its word
  pub did_fill : (slots : ℕ) (me me' : Me (Option V) (View E D O)) (n : ℕ) {sought : Key} {i : ℕ} (key : Key) (word row : ℕ) → sought ≡ key → i ≡ word → told.fills_row M decides sought (step slots i row 0 none) me n me' → told.fills_row M decides key (step slots word row 0 none) me n me'
  did_fill slots me me' n {sought} {i} key word row same at h =
      subst (λ (x : Key). told.fills_row M decides x (step slots word row 0 none) me n me') same (subst (λ (j : ℕ). told.fills_row M decides sought (step slots j row 0 none) me n me') at h)
