-- How passes stay counted when one is entered or left, when the number is raised, cleared or settled, and when a seat is made or retired.
use Rattle.std.proofs.Common.{◌≡◌, ◌≢◌, ℕ, zero, suc, ◌+◌, ◌-◌, ◌*◌, ◌%◌, ◌<◌, ◌≤◌, ◌⊎◌, cond, eqb, true, false, List, [], ◌∷◌, ◌++◌, set, sym, refl, ap, ◌∙◌, subst, inl, inr, ⊎_elim, eq-eqb, ne_eqb, arith}
use Rattle.std.specs.List.{sum_by}
use Rattle.std.proofs.lemmas.List.Sums.{sum_by_push}
use mathlib.Core.Option.{some}
use mathlib.Core.Logic.{dite}
use native.Mathlib.Decide.{ℕ_discrete}
use lib.ListN.{get_elem?}
use Rattle.row_words.specs.Words.{gate_word, IsGate}
use Rattle.gate_rule.specs.declared.view.Pass.{Pass}
use Rattle.gate_rule.specs.declared.view.Pass.TheVariants.{Out, Inside}
use Rattle.gate_rule.specs.declared.view.Rights.{Rights}
use Rattle.gate_rule.specs.Passes.{Passes, FitsPass, at_parity, inside_at, quota_of, left_of}
use Rattle.gate_rule.specs.Views.{number_in, version_in, passes_in, one_more}
use Rattle.gate_rule.proofs.Places.{put, put_here, put_else, each_set, each_more, sum_set, sum_at}

pub at_same : (p n v : ℕ) → n % 2 ≡ p → at_parity p (Inside n v) ≡ 1
at_same p n v e = ap (λ (b : _). cond b 1 0) (eq-eqb (n % 2) p e)

pub at_other : (p n v : ℕ) → n % 2 ≢ p → at_parity p (Inside n v) ≡ 0
at_other p n v e = ap (λ (b : _). cond b 1 0) (ne_eqb (n % 2) p e)

pub at_most : (p : ℕ) (x : Pass) → at_parity p x ≤ 1
at_most p Out = omega arith
at_most p (Inside n v) = go (eqb (n % 2) p)
  where
    go : (b : _) → cond b 1 0 ≤ 1
    go true = omega arith
    go false = omega arith

left_even : (p n v even odd : ℕ) → p < 2 → n % 2 ≡ 0 → left_of (even + 1) odd p ≡ left_of even odd p + at_parity p (Inside n v)
left_even zero n v even odd small e = let h : at_parity 0 (Inside n v) ≡ 1 = at_same 0 n v e in let g : even + 1 ≡ even + at_parity 0 (Inside n v) = omega arith in g
left_even (suc p) n v even odd small e = let h : at_parity (suc p) (Inside n v) ≡ 0 = at_other (suc p) n v (λ z. omega arith) in let g : odd ≡ odd + at_parity (suc p) (Inside n v) = omega arith in g

left_odd : (p n v even odd : ℕ) → p < 2 → n % 2 ≡ 1 → left_of even (odd + 1) p ≡ left_of even odd p + at_parity p (Inside n v)
left_odd zero n v even odd small e = let h : at_parity 0 (Inside n v) ≡ 0 = at_other 0 n v (λ z. omega arith) in let g : even ≡ even + at_parity 0 (Inside n v) = omega arith in g
left_odd (suc p) n v even odd small e = let h : at_parity (suc p) (Inside n v) ≡ 1 = at_same (suc p) n v (omega arith) in let g : odd + 1 ≡ odd + at_parity (suc p) (Inside n v) = omega arith in g

pub gate_fields : (w c v e : ℕ) → w ≡ gate_word c v e → IsGate c v e → (number_in w ≡ c) × (version_in w ≡ v) × (passes_in w ≡ e)
gate_fields w c v e is small = let a = small.0 in let b = small.1 in let d = small.2 in (omega arith, omega arith, omega arith)

module _ (rs : List Rights) (c a F cnt un clear : ℕ) (ver : ℕ → ℕ) (gate even odd : ℕ) (r : Passes rs c a F cnt un clear ver gate even odd) where
  pub few : r.entered < 34359738369
  few = let b = r.budget in omega arith

  -- each leave counter is small
  pub left_small : (p : ℕ) → p ≡ c % 2 → (left_of even odd p ≤ 34359738368) × (left_of even odd ((c + 1) % 2) ≤ 34359738368)
  left_small p e =
      let h = r.here in let t = r.there in let b = r.budget in
      let g : left_of even odd p ≡ left_of even odd (c % 2) = ap (left_of even odd) e in
      (omega arith, omega arith)

  pub even_small : even ≤ 34359738368
  even_small = go (c % 2) refl
    where
      go : (p : ℕ) → p ≡ c % 2 → even ≤ 34359738368
      go zero e = (left_small zero e).0
      go (suc p) e = let q : (c + 1) % 2 ≡ 0 = omega arith in subst (λ (x : ℕ). left_of even odd x ≤ 34359738368) q (left_small (suc p) e).1

  pub odd_small : odd ≤ 34359738368
  odd_small = go (c % 2) refl
    where
      go : (p : ℕ) → p ≡ c % 2 → odd ≤ 34359738368
      go zero e = let q : (c + 1) % 2 ≡ 1 = omega arith in subst (λ (x : ℕ). left_of even odd x ≤ 34359738368) q (left_small zero e).1
      go (suc p) e = (left_small (suc p) e).0

  pub fields : c < 1048576 → ver c < 256 → (number_in gate ≡ c) × (version_in gate ≡ ver c) × (passes_in gate ≡ r.entered)
  fields small known = let b = few in gate_fields gate c (ver c) r.entered r.gate_is (small, known, omega arith)

  pub enters : c < 1048576 → ver c < 256 → (id : ℕ) (x : Rights) → get_elem? rs id ≡ some x → x.pass ≡ Out → 0 < x.quota
      → Passes (set rs id (record { pass = Inside (number_in gate) (version_in gate); quota = x.quota - 1 })) c a F cnt un clear ver (one_more gate) even odd
  enters small known id x at out some_left =
      let f = fields small known in
      let y : Rights = record { pass = Inside (number_in gate) (version_in gate); quota = x.quota - 1 } in
      let n = number_in gate in
      record {
        entered = r.entered + 1;
        gate_is = let g = r.gate_is in let b = few in omega arith;
        here =
            let h = r.here in
            let s = sum_set (inside_at (c % 2)) rs id x y at in
            let o : at_parity (c % 2) x.pass ≡ 0 = ap (at_parity (c % 2)) out in
            let i : at_parity (c % 2) (Inside n (version_in gate)) ≡ 1 = at_same (c % 2) n (version_in gate) (ap (λ (z : ℕ). z % 2) f.0) in
            omega arith;
        there =
            let h = r.there in
            let q = (c + 1) % 2 in
            let s = sum_set (inside_at ((c + 1) % 2)) rs id x y at in
            let o : at_parity ((c + 1) % 2) x.pass ≡ 0 = ap (at_parity ((c + 1) % 2)) out in
            let e : n % 2 ≡ c % 2 = ap (λ (z : ℕ). z % 2) f.0 in
            let i : at_parity ((c + 1) % 2) (Inside n (version_in gate)) ≡ 0 = at_other ((c + 1) % 2) n (version_in gate) (λ z. omega arith) in
            omega arith;
        budget = let b = r.budget in let s = sum_set quota_of rs id x y at in omega arith;
        between = r.between;
        cleared = r.cleared;
        forced_is = r.forced_is;
        each = each_set (λ j z. FitsPass c a F clear ver z.pass) rs id y
            (let e = f.0 in let cl = r.cleared in (inr (inl e), omega arith, f.1 ∙ ap ver (sym e), λ lt. absurd (omega arith)))
            (λ j z other e. r.each j z e);
      }

  -- what leaving leaves, given the two leave counters after
  leaves : (id : ℕ) (x : Rights) (n v even' odd' : ℕ) → get_elem? rs id ≡ some x → x.pass ≡ Inside n v
      → ((p : ℕ) → p < 2 → left_of even' odd' p ≡ left_of even odd p + at_parity p (Inside n v))
      → Passes (set rs id (record x { pass = Out })) c a F cnt un clear ver gate even' odd'
  leaves id x n v even' odd' at inside moved =
      let y : Rights = record x { pass = Out } in
      record {
        entered = r.entered;
        gate_is = r.gate_is;
        here =
            let h = r.here in
            let s = sum_set (inside_at (c % 2)) rs id x y at in
            let i : at_parity (c % 2) x.pass ≡ at_parity (c % 2) (Inside n v) = ap (at_parity (c % 2)) inside in
            let m = moved (c % 2) (omega arith) in
            omega arith;
        there =
            let h = r.there in
            let s = sum_set (inside_at ((c + 1) % 2)) rs id x y at in
            let i : at_parity ((c + 1) % 2) x.pass ≡ at_parity ((c + 1) % 2) (Inside n v) = ap (at_parity ((c + 1) % 2)) inside in
            let m = moved ((c + 1) % 2) (omega arith) in
            omega arith;
        budget = let b = r.budget in let s = sum_set quota_of rs id x y at in omega arith;
        between = r.between;
        cleared = r.cleared;
        forced_is = r.forced_is;
        each = each_set (λ j z. FitsPass c a F clear ver z.pass) rs id y tt (λ j z other e. r.each j z e);
      }

  pub leaves_even : (id : ℕ) (x : Rights) (n v : ℕ) → get_elem? rs id ≡ some x → x.pass ≡ Inside n v → n % 2 ≡ 0 → Passes (set rs id (record x { pass = Out })) c a F cnt un clear ver gate (one_more even) odd
  leaves_even id x n v at inside e =
      let fit : one_more even ≡ even + 1 = let s = even_small in omega arith in
      leaves id x n v (one_more even) odd at inside (λ p small. ap (λ (z : ℕ). left_of z odd p) fit ∙ left_even p n v even odd small e)

  pub leaves_odd : (id : ℕ) (x : Rights) (n v : ℕ) → get_elem? rs id ≡ some x → x.pass ≡ Inside n v → n % 2 ≡ 1 → Passes (set rs id (record x { pass = Out })) c a F cnt un clear ver gate even (one_more odd)
  leaves_odd id x n v at inside e =
      let fit : one_more odd ≡ odd + 1 = let s = odd_small in omega arith in
      leaves id x n v even (one_more odd) at inside (λ p small. ap (λ (z : ℕ). left_of even z p) fit ∙ left_odd p n v even odd small e)

  -- fewer passes are counted than entered
  pub counted_in : cnt ≤ r.entered
  counted_in = let h = r.here in omega arith

  -- the gate word after a raise
  pub raised_word : (by v : ℕ) → c + 1 < 1048576 → ver c < 256 → v < 256 → by + ver c * 68719476736 ≡ 17592186044416 + v * 68719476736 → (gate + by) % 18446744073709551616 ≡ gate_word (c + 1) v r.entered
  raised_word by v small known fits amount = let g = r.gate_is in let b = few in omega arith

  pub raises : (by v : ℕ) → a ≡ c → c + 1 < 1048576 → ver c < 256 → v < 256 → by + ver c * 68719476736 ≡ 17592186044416 + v * 68719476736
      → Passes rs (c + 1) a F (r.entered - cnt) un clear (put ver (c + 1) v) ((gate + by) % 18446744073709551616) even odd
  raises by v at_rest small known fits amount =
      let here = put_here ver (c + 1) v in
      record {
        entered = r.entered;
        gate_is = subst (λ (z : ℕ). (gate + by) % 18446744073709551616 ≡ gate_word (c + 1) z r.entered) (sym here) (raised_word by v small known fits amount);
        here = let h = r.here in let t = r.there in omega arith;
        there =
            let h = r.here in
            let e : (c + 1 + 1) % 2 ≡ c % 2 = omega arith in
            ap (λ (p : ℕ). sum_by (inside_at p) rs + left_of even odd p) e ∙ omega arith;
        budget = r.budget;
        between = let b = r.between in (omega arith, omega arith);
        cleared = let k = r.cleared in omega arith;
        forced_is = r.forced_is;
        each = λ j x e. go x.pass (r.each j x e);
      }
    where
      go : (x : Pass) → FitsPass c a F clear ver x → FitsPass (c + 1) a F clear (put ver (c + 1) v) x
      go Out h = tt
      go (Inside n w) h =
          let le = h.1 in
          (⊎_elim (λ e. inl e) (⊎_elim (λ e. inl (e ∙ sym at_rest)) (λ lt. inr (inr lt))) h.0, omega arith, h.2 ∙ sym (put_else ver (c + 1) v n (λ e. omega arith)), h.3)

  -- where none of the older passes is out, nothing below the newest number is, but what is below a forced one
  pub clears : c ≡ a + 1 → cnt ≤ left_of even odd ((c + 1) % 2) → Passes rs c a F cnt un c ver gate even odd
  clears pending none = record {
    entered = r.entered;
    gate_is = r.gate_is;
    here = r.here;
    there = r.there;
    budget = r.budget;
    between = r.between;
    cleared = omega arith;
    forced_is = r.forced_is;
    each = λ j x e. go x.pass (r.each j x e) (let t = r.there in let s = sum_at (inside_at ((c + 1) % 2)) rs j x e in omega arith);
  }
    where
      go : (x : Pass) → FitsPass c a F clear ver x → at_parity ((c + 1) % 2) x ≡ 0 → FitsPass c a F c ver x
      go Out h z = tt
      go (Inside n w) h z =
          (h.0, h.1, h.2, λ lt. ⊎_elim (λ (e : n ≡ a). let o : at_parity ((c + 1) % 2) (Inside n w) ≡ 1 = at_same ((c + 1) % 2) n w (omega arith) in absurd (omega arith)) (⊎_elim (λ (e : n ≡ c). absurd (omega arith)) (λ below. below)) h.0)

  -- the newest number is settled, where all below it is clear or is forced
  pub settles : (F' : ℕ) → ((F' ≡ F) × (clear ≡ c)) ⊎ (F' ≡ c) → Passes rs c c F' cnt un clear ver gate even odd
  settles F' why = record {
    entered = r.entered;
    gate_is = r.gate_is;
    here = r.here;
    there = r.there;
    budget = r.budget;
    between = (omega arith, omega arith);
    cleared = r.cleared;
    forced_is = let f = r.forced_is in let b = r.between in ⊎_elim (λ (h : (F' ≡ F) × (clear ≡ c)). let e = h.0 in omega arith) (λ (h : F' ≡ c). omega arith) why;
    each = λ j x e. go x.pass (r.each j x e) why;
  }
    where
      split : (n : ℕ) → n ≤ c → (n < c → n < F') → (n ≡ c) ⊎ ((n ≡ c) ⊎ (n < F'))
      split n le below = dite (ℕ_discrete n c) (λ e. inl e) (λ ne. inr (inr (below (omega arith))))

      go : (x : Pass) → FitsPass c a F clear ver x → ((F' ≡ F) × (clear ≡ c)) ⊎ (F' ≡ c) → FitsPass c c F' clear ver x
      go Out h w = tt
      go (Inside n v) h w =
          let below : n < c → n < F' = ⊎_elim (λ (k : (F' ≡ F) × (clear ≡ c)). λ lt. let e = k.0 in let cl = k.1 in let q = h.3 (omega arith) in omega arith) (λ (k : F' ≡ c). λ lt. omega arith) w in
          let cl = r.cleared in
          (split n h.1 below, h.1, h.2, λ lt. below (omega arith))

  pub makes : (quota un' : ℕ) → un' + quota ≡ un → Passes (rs ++ (record { pass = Out; quota = quota }) ∷ []) c a F cnt un' clear ver gate even odd
  makes quota un' fewer =
      let y : Rights = record { pass = Out; quota = quota } in
      record {
        entered = r.entered;
        gate_is = r.gate_is;
        here = let h = r.here in omega (arith, sum_by_push (inside_at (c % 2)) rs y);
        there = let h = r.there in omega (arith, sum_by_push (inside_at ((c + 1) % 2)) rs y);
        budget = let b = r.budget in omega (arith, sum_by_push quota_of rs y);
        between = r.between;
        cleared = r.cleared;
        forced_is = r.forced_is;
        each = each_more (λ j z. FitsPass c a F clear ver z.pass) rs y tt r.each;
      }

  pub retires : (id : ℕ) (x : Rights) → get_elem? rs id ≡ some x → x.pass ≡ Out → Passes (set rs id (record { pass = Out; quota = 0 })) c a F cnt un clear ver gate even odd
  retires id x at out =
      let y : Rights = record { pass = Out; quota = 0 } in
      record {
        entered = r.entered;
        gate_is = r.gate_is;
        here = let h = r.here in let s = sum_set (inside_at (c % 2)) rs id x y at in let o : at_parity (c % 2) x.pass ≡ 0 = ap (at_parity (c % 2)) out in omega arith;
        there = let h = r.there in let s = sum_set (inside_at ((c + 1) % 2)) rs id x y at in let o : at_parity ((c + 1) % 2) x.pass ≡ 0 = ap (at_parity ((c + 1) % 2)) out in omega arith;
        budget = let b = r.budget in let s = sum_set quota_of rs id x y at in omega arith;
        between = r.between;
        cleared = r.cleared;
        forced_is = r.forced_is;
        each = each_set (λ j z. FitsPass c a F clear ver z.pass) rs id y tt (λ j z other e. r.each j z e);
      }
