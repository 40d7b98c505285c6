-- What a history allows, by the phase that it has led to: the numbers in their order, and the passes that may be named.
use Rattle.std.proofs.Common.{◌≡◌, ◌≢◌, ℕ, ◌+◌, ◌<◌, ◌≤◌, ◌⊎◌, Bool, true, false, cond, eqb, max, List, [], ◌∷◌, sym, refl, ap, ◌∙◌, subst, inl, inr, ⊎_elim, eq-eqb, ne_eqb, arith}
use Rattle.std.specs.Prelude.{if◌then◌else◌}
use Rattle.std.specs.List.{fold, filter}
use Rattle.access_vectors.specs.declared.phase.Phase.{Phase}
use Rattle.access_vectors.specs.declared.phase.Phase.TheVariants.{Settled, Pending}
use Rattle.access_vectors.specs.Phases.{MayName, version_at}
use Rattle.gate_rule.specs.declared.view.Pass.{Pass}
use Rattle.gate_rule.specs.declared.view.Pass.TheVariants.{Out, Inside}
use Rattle.gate_rule.specs.History.{Kind, is_forced, noticed, settled, forced_to, dated, settled_in, forced_in, last_notice, version_of, phase_after, phase_in, MayCome, Alternates, IsOrdered}
use Rattle.gate_rule.specs.History.Kind.{Call, Notice, Ack}
use Rattle.gate_rule.specs.Told.{IsAllowed, IsNamed}
use Rattle.gate_rule.proofs.Histories.{newest_apart}

-- what settled number, last notice and versions say of a phase
abbrev pub Tells : ℕ → ℕ × ℕ → (ℕ → ℕ) → Phase → Type 0
Tells a p ver (Settled n v) = (a ≡ n) × (p ≡ (n, v)) × (ver n ≡ v)
Tells a p ver (Pending n old new) = (a + 1 ≡ n) × (p ≡ (n, new)) × (ver n ≡ new) × ((m : ℕ) → m + 1 ≡ n → ver m ≡ old)

tells_on : (versions a : ℕ) (p : ℕ × ℕ) (ver : ℕ → ℕ) (phase : Phase) (k : Kind) → Tells a p ver phase → MayCome versions a p.0 k → Tells (settled a k) (noticed p k) (λ m. dated m (ver m) k) (phase_after phase k)
tells_on versions a p ver phase (Call caller mark number) h may = h
tells_on versions a p ver (Settled n v) (Notice number version) h may = (
  sym may.1,
  refl,
  ap (λ (b : Bool). cond b version (ver number)) (eq-eqb number number refl),
  (λ m next. ap (λ (b : Bool). cond b version (ver m)) (ne_eqb number m (λ e. omega arith)) ∙ (ap ver (let x = may.1 in let y = h.0 in omega arith) ∙ h.2)),
)
tells_on versions a p ver (Pending n old new) (Notice number version) h may = let e = ap (λ (q : ℕ × ℕ). q.0) h.1 in let b = h.0 in let c = may.0 in absurd (omega arith)
tells_on versions a p ver (Settled n v) (Ack number forced) h may = let e = ap (λ (q : ℕ × ℕ). q.0) h.1 in let b = h.0 in let c = may.0 in absurd (omega arith)
tells_on versions a p ver (Pending n old new) (Ack number forced) h may = (may.1 ∙ ap (λ (q : ℕ × ℕ). q.0) h.1, h.1, h.2)

module _ {E : Type 0} (kind : E → Kind) where
  tells_from : (versions a : ℕ) (p : ℕ × ℕ) (ver : ℕ → ℕ) (phase : Phase) (log : List E) → Tells a p ver phase → Alternates kind versions a p.0 log
      → Tells (fold (λ b x. settled b (kind x)) a log) (fold (λ q x. noticed q (kind x)) p log) (λ m. fold (λ v x. dated m v (kind x)) (ver m) log) (fold (λ f x. phase_after f (kind x)) phase log)
  tells_from versions a p ver phase [] h alternates = h
  tells_from versions a p ver phase (x ∷ xs) h alternates =
      tells_from versions (settled a (kind x)) (noticed p (kind x)) (λ m. dated m (ver m) (kind x)) (phase_after phase (kind x)) xs (tells_on versions a p ver phase (kind x) h alternates.0)
      (subst (λ (c : ℕ). Alternates kind versions (settled a (kind x)) c xs) (newest_apart kind p (kind x)) alternates.1)

  pub tells : (versions : ℕ) (log : List E) → Alternates kind versions 0 0 log → Tells (settled_in kind log) (last_notice kind log) (λ m. version_of kind m log) (phase_in kind log)
  tells versions log alternates = tells_from versions 0 (0, 0) (λ m. 0) (Settled 0 0) log (refl, refl, refl) alternates

  order_on : (versions a f : ℕ) (p : ℕ × ℕ) (k : Kind) → f ≤ a → a ≤ p.0 → MayCome versions a p.0 k → (forced_to f k ≤ settled a k) × (settled a k ≤ (noticed p k).0)
  order_on versions a f p (Call caller mark number) low high may = (low, high)
  order_on versions a f p (Notice number version) low high may = (low, (let e = may.1 in omega arith))
  order_on versions a f p (Ack number true) low high may = ((let e = may.0 in let g = may.1 in omega arith), (let e = may.1 in omega arith))
  order_on versions a f p (Ack number false) low high may = ((let e = may.0 in let g = may.1 in omega arith), (let e = may.1 in omega arith))

  order_from : (versions a f : ℕ) (p : ℕ × ℕ) (log : List E) → f ≤ a → a ≤ p.0 → Alternates kind versions a p.0 log
      → (fold (λ b x. forced_to b (kind x)) f log ≤ fold (λ b x. settled b (kind x)) a log) × (fold (λ b x. settled b (kind x)) a log ≤ (fold (λ q x. noticed q (kind x)) p log).0)
  order_from versions a f p [] low high alternates = (low, high)
  order_from versions a f p (x ∷ xs) low high alternates =
      let next = order_on versions a f p (kind x) low high alternates.0 in
      order_from versions (settled a (kind x)) (forced_to f (kind x)) (noticed p (kind x)) xs next.0 next.1
      (subst (λ (c : ℕ). Alternates kind versions (settled a (kind x)) c xs) (newest_apart kind p (kind x)) alternates.1)

  none_forced : (f : ℕ) (log : List E) → filter (λ x. is_forced (kind x)) log ≡ [] → fold (λ b x. forced_to b (kind x)) f log ≡ f
  none_forced f [] none = refl
  none_forced f (x ∷ xs) none = go (none_forced f xs) (kind x) none
    where
      go : (filter (λ y. is_forced (kind y)) xs ≡ [] → fold (λ b y. forced_to b (kind y)) f xs ≡ f) → (k : Kind)
          → cond (is_forced k) (x ∷ filter (λ y. is_forced (kind y)) xs) (filter (λ y. is_forced (kind y)) xs) ≡ [] → fold (λ b y. forced_to b (kind y)) (forced_to f k) xs ≡ f
      go next (Call caller mark number) rest = next rest
      go next (Notice number version) rest = next rest
      go next (Ack number true) rest = absurd (cc)
      go next (Ack number false) rest = next rest

  -- the numbers of a history stand in their order
  pub ordered : (versions : ℕ) (log : List E) → Alternates kind versions 0 0 log → IsOrdered kind log
  ordered versions log alternates =
      let both = order_from versions 0 0 (0, 0) log (omega arith) (omega arith) alternates in
      record { forced = both.0; settled = both.1; unforced = none_forced 0 log }

  place_of : (a f : ℕ) (p : ℕ × ℕ) (ver : ℕ → ℕ) (phase : Phase) (n v : ℕ) → Tells a p ver phase → f ≤ a → ((n ≡ a) ⊎ ((n ≡ p.0) ⊎ (n < f))) → v ≡ ver n → a ≤ n → MayName phase n × (v ≡ version_at phase n)
  place_of a f p ver (Settled settled_is version) n v h low where_is is at_least =
      let top = ap (λ (q : ℕ × ℕ). q.0) h.1 in
      let same : n ≡ settled_is = ⊎_elim (λ e. e ∙ h.0) (⊎_elim (λ e. e ∙ top) (λ lt. absurd (omega arith))) where_is in
      (same, is ∙ (ap ver same ∙ h.2))
  place_of a f p ver (Pending pending old new) n v h low where_is is at_least =
      let top = ap (λ (q : ℕ × ℕ). q.0) h.1 in
      ⊎_elim
      (λ e.
      let next : n + 1 ≡ pending = ap (λ (x : ℕ). x + 1) e ∙ h.0 in
      (inr next, is ∙ (h.3 n next ∙ sym (ap (λ (b : Bool). if b then new else old) (ne_eqb n pending (λ z. omega arith))))))
      (⊎_elim
      (λ e. let same : n ≡ pending = e ∙ top in (inl same, is ∙ (ap ver same ∙ (h.2 ∙ sym (ap (λ (b : Bool). if b then new else old) (eq-eqb n pending same))))))
      (λ lt. absurd (omega arith))) where_is

  -- a pass that the history allows, of the settled number or one above it, may be named by the phase
  pub named : (versions : ℕ) (log : List E) → Alternates kind versions 0 0 log → (pass : Pass) → IsAllowed kind pass log → IsNamed kind pass log
  named versions log alternates Out allowed = tt
  named versions log alternates (Inside n v) allowed = λ at_least.
      place_of (settled_in kind log) (forced_in kind log) (last_notice kind log) (λ m. version_of kind m log) (phase_in kind log) n v (tells versions log alternates) (ordered versions log alternates).forced allowed.0 allowed.1 at_least
