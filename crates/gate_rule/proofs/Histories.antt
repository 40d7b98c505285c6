-- Histories with one entry more.
use Rattle.std.proofs.Common.{length-append, nat_le, leb-true, subst, ◌≡◌, ◌≢◌, ℕ, ◌+◌, ◌≤◌, Bool, true, false, cond, eqb, List, [], ◌∷◌, ◌++◌, length, sym, refl, ap, ◌∙◌, append-nil, append_assoc, eq-eqb, Option, Some, None, arith}
use Rattle.std.specs.List.{fold}
use Rattle.std.proofs.lemmas.List.Elements.{filter-append}
use Rattle.std.proofs.lemmas.List.Sums.{fold_push}
use Rattle.access_vectors.specs.declared.phase.Phase.{Phase}
use Rattle.access_vectors.specs.declared.phase.Phase.TheVariants.{Settled, Pending}
use Rattle.gate_rule.specs.declared.view.Item.{Item}
use Rattle.gate_rule.specs.History.{Kind, is_by, is_control, noticed, settled, forced_to, dated, of_caller, controls, last_notice, settled_in, forced_in, version_of, phase_after, phase_in, MayCome, Alternates, StartsWith}
use Rattle.gate_rule.specs.History.Kind.{Call, Notice, Ack}
use Rattle.gate_rule.specs.Views.{entry_added, entries_of, with_entry, longer}

module _ {E : Type 0} where
  pub begins_here : (log : List E) → StartsWith log log
  begins_here log = ([], sym (append-nil log))

  pub begins_more : (log seen : List E) (e : E) → StartsWith log seen → StartsWith (log ++ e ∷ []) seen
  begins_more log seen e h = (h.0 ++ e ∷ [], ap (λ (l : List E). l ++ e ∷ []) h.1 ∙ append_assoc seen h.0 (e ∷ []))

  pub nothing_added : (seen : List E) → entry_added seen seen ≡ None
  nothing_added [] = refl
  nothing_added (x ∷ xs) = nothing_added xs

  pub one_added : (seen : List E) (e : E) → entry_added seen (seen ++ e ∷ []) ≡ Some e
  one_added [] e = refl
  one_added (x ∷ xs) e = one_added xs e

  pub entries_more : (turns : List (Item E)) (i : Item E) (e : E) → i.entry ≡ Some e → entries_of (turns ++ i ∷ []) ≡ entries_of turns ++ e ∷ []
  entries_more [] i e h = ap (λ (o : Option E). with_entry o []) h
  entries_more (t ∷ ts) i e h = go (entries_more ts i e h) t.entry
    where
      go : entries_of (ts ++ i ∷ []) ≡ entries_of ts ++ e ∷ [] → (o : Option E) → entries_of ((record t { entry = o }) ∷ (ts ++ i ∷ [])) ≡ entries_of ((record t { entry = o }) ∷ ts) ++ e ∷ []
      go rest None = rest
      go rest (Some x) = ap (λ (l : List E). x ∷ l) rest

  pub entries_same : (turns : List (Item E)) (i : Item E) → i.entry ≡ None → entries_of (turns ++ i ∷ []) ≡ entries_of turns
  entries_same [] i h = ap (λ (o : Option E). with_entry o []) h
  entries_same (t ∷ ts) i h = go (entries_same ts i h) t.entry
    where
      go : entries_of (ts ++ i ∷ []) ≡ entries_of ts → (o : Option E) → entries_of ((record t { entry = o }) ∷ (ts ++ i ∷ [])) ≡ entries_of ((record t { entry = o }) ∷ ts)
      go rest None = rest
      go rest (Some x) = ap (λ (l : List E). x ∷ l) rest

  -- of two beginnings of one list, the one that is not longer begins the other
  pub begins_longer : (a b r s : List E) → a ++ r ≡ b ++ s → length a ≤ length b → StartsWith b a
  begins_longer [] b r s e le = (b, refl)
  begins_longer (x ∷ xs) [] r s e le = absurd (omega arith)
  begins_longer (x ∷ xs) (y ∷ ys) r s e le =
      let h = begins_longer xs ys r s (tail_same e) (omega arith) in
      (h.0, (λ i. head_same (sym e) i ∷ h.1 i))
    where
      tail_same : x ∷ (xs ++ r) ≡ y ∷ (ys ++ s) → xs ++ r ≡ ys ++ s
      tail_same q = cc

      head_same : y ∷ (ys ++ s) ≡ x ∷ (xs ++ r) → y ≡ x
      head_same q = cc

  -- a beginning that is as long as the whole is the whole
  pub begins_whole : (log b rest : List E) → log ≡ b ++ rest → length log ≤ length b → log ≡ b
  begins_whole log b [] e le = e ∙ append-nil b
  begins_whole log b (x ∷ xs) e le = let a = ap length e in let z = length-append b (x ∷ xs) in absurd (omega arith)

  -- of the whole and a beginning of it, the longer is the whole
  pub longer_whole : (log a b : List E) → StartsWith log b → a ≡ log → longer a b ≡ log
  longer_whole log a b h e = go (nat_le (length a) (length b)) refl
    where
      go : (x : Bool) → nat_le (length a) (length b) ≡ x → cond x b a ≡ log
      go true le = sym (begins_whole log b h.0 h.1 (subst (λ (l : List E). length l ≤ length b) e (leb-true (length a) (length b) le)))
      go false le = e

module _ {E : Type 0} (kind : E → Kind) where
  pub of_caller_own : (n : ℕ) (log : List E) (e : E) → is_by n (kind e) ≡ true → of_caller kind n (log ++ e ∷ []) ≡ of_caller kind n log ++ e ∷ []
  of_caller_own n log e own = filter-append (λ x. is_by n (kind x)) log (e ∷ []) ∙ ap (λ (b : Bool). of_caller kind n log ++ cond b (e ∷ []) []) own

  pub of_caller_other : (n : ℕ) (log : List E) (e : E) → is_by n (kind e) ≡ false → of_caller kind n (log ++ e ∷ []) ≡ of_caller kind n log
  of_caller_other n log e other =
      filter-append (λ x. is_by n (kind x)) log (e ∷ []) ∙ (ap (λ (b : Bool). of_caller kind n log ++ cond b (e ∷ []) []) other ∙ append-nil (of_caller kind n log))

  pub controls_own : (log : List E) (e : E) → is_control (kind e) ≡ true → controls kind (log ++ e ∷ []) ≡ controls kind log ++ e ∷ []
  controls_own log e own = filter-append (λ x. is_control (kind x)) log (e ∷ []) ∙ ap (λ (b : Bool). controls kind log ++ cond b (e ∷ []) []) own

  pub controls_other : (log : List E) (e : E) → is_control (kind e) ≡ false → controls kind (log ++ e ∷ []) ≡ controls kind log
  controls_other log e other =
      filter-append (λ x. is_control (kind x)) log (e ∷ []) ∙ (ap (λ (b : Bool). controls kind log ++ cond b (e ∷ []) []) other ∙ append-nil (controls kind log))

  pub notice_more : (log : List E) (e : E) → last_notice kind (log ++ e ∷ []) ≡ noticed (last_notice kind log) (kind e)
  notice_more log e = fold_push (λ p x. noticed p (kind x)) (0, 0) log e

  pub settled_more : (log : List E) (e : E) → settled_in kind (log ++ e ∷ []) ≡ settled (settled_in kind log) (kind e)
  settled_more log e = fold_push (λ a x. settled a (kind x)) 0 log e

  pub forced_more : (log : List E) (e : E) → forced_in kind (log ++ e ∷ []) ≡ forced_to (forced_in kind log) (kind e)
  forced_more log e = fold_push (λ a x. forced_to a (kind x)) 0 log e

  pub version_more : (m : ℕ) (log : List E) (e : E) → version_of kind m (log ++ e ∷ []) ≡ dated m (version_of kind m log) (kind e)
  version_more m log e = fold_push (λ v x. dated m v (kind x)) 0 log e

  version_from : (log : List E) (p : ℕ × ℕ) (w n : ℕ) → (fold (λ q x. noticed q (kind x)) p log).0 ≡ n → (p.0 ≡ n → w ≡ p.1) → fold (λ v x. dated n v (kind x)) w log ≡ (fold (λ q x. noticed q (kind x)) p log).1
  version_from [] p w n e start = start e
  version_from (x ∷ xs) p w n e start = go (kind x) (version_from xs) e
    where
      go : (k : Kind)
          → ((q : ℕ × ℕ) (u m : ℕ) → (fold (λ q x. noticed q (kind x)) q xs).0 ≡ m → (q.0 ≡ m → u ≡ q.1) → fold (λ v x. dated m v (kind x)) u xs ≡ (fold (λ q x. noticed q (kind x)) q xs).1)
          → (fold (λ q y. noticed q (kind y)) (noticed p k) xs).0 ≡ n → fold (λ v y. dated n v (kind y)) (dated n w k) xs ≡ (fold (λ q y. noticed q (kind y)) (noticed p k) xs).1
      go (Call caller mark number) rest e' = rest p w n e' start
      go (Notice number version) rest e' = rest (number, version) (cond (eqb number n) version w) n e' (λ same. ap (λ (b : Bool). cond b version w) (eq-eqb number n same))
      go (Ack number forced) rest e' = rest p w n e' start

  -- the last notice gives its number's version
  pub version_last : (log : List E) (n v : ℕ) → last_notice kind log ≡ (n, v) → version_of kind n log ≡ v
  version_last log n v e = version_from log (0, 0) 0 n (ap (λ (p : ℕ × ℕ). p.0) e) (λ z. refl) ∙ ap (λ (p : ℕ × ℕ). p.1) e

  -- what stands between two beginnings with the same controls has none
  controls_between : (a m r : List E) → controls kind (a ++ (m ++ r)) ≡ controls kind a → controls kind (a ++ m) ≡ controls kind a
  controls_between a m r e =
      let whole = filter-append (λ x. is_control (kind x)) a (m ++ r) in
      let part = filter-append (λ x. is_control (kind x)) m r in
      let front = filter-append (λ x. is_control (kind x)) a m in
      front ∙ (ap (λ (l : List E). controls kind a ++ l) (empty (controls kind m) (controls kind r) (stays (controls kind a) (controls kind m ++ controls kind r) (ap (λ (l : List E). controls kind a ++ l) (sym part) ∙ (sym whole ∙ e)))) ∙ append-nil (controls kind a))
    where
      stays : (xs ys : List E) → xs ++ ys ≡ xs → ys ≡ []
      stays [] ys e = e
      stays (x ∷ xs) ys e = stays xs ys (tail_same e)
        where
          tail_same : x ∷ (xs ++ ys) ≡ x ∷ xs → xs ++ ys ≡ xs
          tail_same q = cc

      empty : (xs ys : List E) → xs ++ ys ≡ [] → xs ≡ []
      empty [] ys e = refl
      empty (x ∷ xs) ys e = absurd (cc)

  -- a list between a beginning that has all controls and the whole has all controls too
  pub controls_longer : (log a b : List E) → StartsWith log a → StartsWith log b → length a ≤ length b → controls kind log ≡ controls kind a → controls kind b ≡ controls kind a
  controls_longer log a b ha hb le same =
      let m = begins_longer a b ha.0 hb.0 (sym ha.1 ∙ hb.1) le in
      let whole : log ≡ a ++ (m.0 ++ hb.0) = hb.1 ∙ (ap (λ (l : List E). l ++ hb.0) m.1 ∙ append_assoc a m.0 hb.0) in
      ap (controls kind) m.1 ∙ controls_between a m.0 hb.0 (ap (controls kind) (sym whole) ∙ same)

  pub newest_apart : (p : ℕ × ℕ) (k : Kind) → (noticed (p.0, 0) k).0 ≡ (noticed p k).0
  newest_apart p (Call caller mark number) = refl
  newest_apart p (Notice number version) = refl
  newest_apart p (Ack number forced) = refl

  -- a phase is that of a settled number and of a last notice
  abbrev pub Leads : ℕ → ℕ × ℕ → Phase → Type 0
  Leads a p (Settled n v) = (n ≡ a) × (p ≡ (n, v))
  Leads a p (Pending n old new) = (n ≡ a + 1) × (p ≡ (n, new))

  leads_on : (versions a : ℕ) (p : ℕ × ℕ) (phase : Phase) (k : Kind) → Leads a p phase → MayCome versions a p.0 k → Leads (settled a k) (noticed p k) (phase_after phase k)
  leads_on versions a p phase (Call caller mark number) h may = h
  leads_on versions a p (Settled n v) (Notice number version) h may = (may.1, refl)
  leads_on versions a p (Pending n old new) (Notice number version) h may = let e = ap (λ (q : ℕ × ℕ). q.0) h.1 in let b = h.0 in let c = may.0 in absurd (omega arith)
  leads_on versions a p (Settled n v) (Ack number forced) h may = let e = ap (λ (q : ℕ × ℕ). q.0) h.1 in let b = h.0 in let c = may.0 in absurd (omega arith)
  leads_on versions a p (Pending n old new) (Ack number forced) h may = (sym (may.1 ∙ ap (λ (q : ℕ × ℕ). q.0) h.1), h.1)

  phase_from : (versions a : ℕ) (p : ℕ × ℕ) (phase : Phase) (log : List E) → Leads a p phase → Alternates kind versions a p.0 log
      → Leads (fold (λ b x. settled b (kind x)) a log) (fold (λ q x. noticed q (kind x)) p log) (fold (λ f x. phase_after f (kind x)) phase log)
  phase_from versions a p phase [] leads h = leads
  phase_from versions a p phase (x ∷ xs) leads h =
      phase_from versions (settled a (kind x)) (noticed p (kind x)) (phase_after phase (kind x)) xs (leads_on versions a p phase (kind x) leads h.0)
      (subst (λ (c : ℕ). Alternates kind versions (settled a (kind x)) c xs) (newest_apart p (kind x)) h.1)

  leads_settled : (a : ℕ) (p : ℕ × ℕ) (phase : Phase) → Leads a p phase → a ≡ p.0 → phase ≡ Settled p.0 p.1
  leads_settled a p (Settled n v) h e = λ i. Settled ((sym h.1 i).0) ((sym h.1 i).1)
  leads_settled a p (Pending n old new) h e = let b = h.0 in let c = ap (λ (q : ℕ × ℕ). q.0) h.1 in absurd (omega arith)

  leads_pending : (a : ℕ) (p : ℕ × ℕ) (phase : Phase) → Leads a p phase → a ≢ p.0 → (old : ℕ) × (phase ≡ Pending p.0 old p.1)
  leads_pending a p (Settled n v) h ne = absurd (ne (sym h.0 ∙ sym (ap (λ (q : ℕ × ℕ). q.0) h.1)))
  leads_pending a p (Pending n old new) h ne = (old, λ i. Pending ((sym h.1 i).0) old ((sym h.1 i).1))

  -- where the last number noticed is settled, nothing is pending
  pub phase_settled : (versions : ℕ) (log : List E) → Alternates kind versions 0 0 log → settled_in kind log ≡ (last_notice kind log).0 → phase_in kind log ≡ Settled (last_notice kind log).0 (last_notice kind log).1
  phase_settled versions log h same = leads_settled (settled_in kind log) (last_notice kind log) (phase_in kind log) (phase_from versions 0 (0, 0) (Settled 0 0) log (refl, refl) h) same

  -- and else it is pending
  pub phase_pending : (versions : ℕ) (log : List E) → Alternates kind versions 0 0 log → settled_in kind log ≢ (last_notice kind log).0
      → (old : ℕ) × (phase_in kind log ≡ Pending (last_notice kind log).0 old (last_notice kind log).1)
  phase_pending versions log h apart = leads_pending (settled_in kind log) (last_notice kind log) (phase_in kind log) (phase_from versions 0 (0, 0) (Settled 0 0) log (refl, refl) h) apart

  alternates_from : (versions a : ℕ) (p : ℕ × ℕ) (log : List E) (e : E) → Alternates kind versions a p.0 log → MayCome versions (fold (λ b x. settled b (kind x)) a log) (fold (λ q x. noticed q (kind x)) p log).0 (kind e)
      → Alternates kind versions a p.0 (log ++ e ∷ [])
  alternates_from versions a p [] e h may = (may, tt)
  alternates_from versions a p (x ∷ xs) e h may =
      let same = newest_apart p (kind x) in (
        h.0,
        subst (λ (c : ℕ). Alternates kind versions (settled a (kind x)) c (xs ++ e ∷ [])) (sym same)
            (alternates_from versions (settled a (kind x)) (noticed p (kind x)) xs e (subst (λ (c : ℕ). Alternates kind versions (settled a (kind x)) c xs) same h.1) may),
      )

  -- one more entry that may come
  pub alternates_more : (versions : ℕ) (log : List E) (e : E) → Alternates kind versions 0 0 log → MayCome versions (settled_in kind log) (last_notice kind log).0 (kind e) → Alternates kind versions 0 0 (log ++ e ∷ [])
  alternates_more versions log e h may = alternates_from versions 0 (0, 0) log e h may
