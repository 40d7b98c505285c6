-- The kinds of step with which the administrator raises the number, counts the older passes and glances at the gate word keep the rule.
use Rattle.std.proofs.Common.{◌≡◌, ◌≢◌, ℕ, zero, suc, ◌+◌, ◌-◌, ◌*◌, ◌%◌, ◌<◌, ◌≤◌, Bool, true, false, cond, eqb, List, map, length, get_or, set, sym, refl, ap, ◌∙◌, subst, inl, inr, ⊎_elim, length-set, eqb-true, Option, Some, arith}
use Rattle.std.specs.List.{sum_by}
use mathlib.Core.Option.{some, none}
use mathlib.Core.Logic.{dite}
use native.Mathlib.Decide.{ℕ_discrete}
use lib.ListN.{get_elem?}
use Rattle.atomic_table.specs.Table.{State, Me, step, keeps, Allows}
use Rattle.atomic_table.proofs.Lists.{set_here}
use Rattle.access_vectors.specs.Decisions.{Decisions}
use Rattle.gate_rule.specs.declared.view.Role.{Role}
use Rattle.gate_rule.specs.declared.view.Role.TheVariants.{Spent, Caller, Admin}
use Rattle.gate_rule.specs.declared.view.Ticket.{Ticket}
use Rattle.gate_rule.specs.declared.view.Ticket.TheVariants.{Served}
use Rattle.gate_rule.specs.declared.view.Rights.{Rights}
use Rattle.gate_rule.specs.declared.view.Fixed.{Fixed}
use Rattle.gate_rule.specs.declared.view.View.{View}
use Rattle.gate_rule.specs.declared.journal.Terms.{Terms}
use Rattle.gate_rule.specs.History.{last_notice, settled_in, version_of}
use Rattle.gate_rule.specs.Meaning.{Means}
use Rattle.gate_rule.specs.Tickets.{Tickets, has_turn}
use Rattle.gate_rule.specs.Passes.{Passes}
use Rattle.gate_rule.specs.Views.{IsLive, is_caller, done, traced}
use Rattle.gate_rule.specs.Rule.{RuleHolds, Truth, Fits, FitsRole, role_of, ticket_of, rights_of, fixed_of}
use Rattle.gate_rule.specs.Told as told
use Rattle.gate_rule.proofs.Places.{each_set, map_kept, within, word_else, word_here, word_same}
use Rattle.gate_rule.proofs.Passing as passing
use Rattle.gate_rule.proofs.Histories.{version_last}
use Rattle.gate_rule.specs.Passes.{left_of, inside_at, at_parity}
use Rattle.row_words.specs.Words.{gate_word}
use Rattle.gate_rule.specs.Views.{raised, counted, glanced, leave_word}
use Rattle.gate_rule.proofs.Places.{put, put_here, put_else, sum_under}
use Rattle.gate_rule.proofs.RowsKept as rowing
use Rattle.gate_rule.proofs.Turns.{has_seen}
use Rattle.gate_rule.proofs.Steps.{tickets_at, passes_at, rows_else, loads, small, stood}

-- a leave counter is the word of its parity
counter_is : (ws : List ℕ) (p : ℕ) → p < 2 → get_or ws (1 + p) 0 ≡ left_of (get_or ws 1 0) (get_or ws 2 0) p
counter_is ws zero lt = refl
counter_is ws (suc zero) lt = refl
counter_is ws (suc (suc p)) lt = absurd (omega arith)

module _ {V E D O : Type 0} (M : Means V E D O) (decides : D → Decisions) (k : Terms V D) where
  module _ (s : State (Option V) (View E D O)) (r : RuleHolds M decides k s) (id : ℕ) (v : View E D O) (at : get_elem? s.views id ≡ some v) (is : v.role ≡ Admin) where
    pub admin_is : FitsRole M (fixed_of M k) r.t id v Admin
    admin_is = subst (FitsRole M (fixed_of M k) r.t id v) is (r.each id v at).role

    pub admin_live : IsLive v.role
    admin_live = subst IsLive (sym is) tt

    -- no other seat is the administrator's
    pub one_admin : (j : ℕ) → j ≢ id → (u : View E D O) → (t : Truth E) → FitsRole M (fixed_of M k) t j u Admin → ⊥
    one_admin j other u t h = other (h.first ∙ sym admin_is.first)

    -- as many callers have a pass of a parity as are not retired at most
    pub out_within : (p : ℕ) → sum_by (inside_at p) (map rights_of s.views) + length v.admin_view.ended ≤ v.admin_view.made
    out_within p =
        let le = sum_under rights_of role_of (inside_at p) is_caller s.views (λ j u there. one j u u.role refl (r.each j u there).role) in
        let n = r.numbers in let h = admin_is in let a = h.made in let b = h.retired in omega arith
      where
        one : (j : ℕ) (u : View E D O) (role : Role) → u.role ≡ role → FitsRole M (fixed_of M k) r.t j u role → inside_at p u.rights ≤ is_caller u.role
        one j u Spent e h = let z : at_parity p u.rights.pass ≡ 0 = ap (at_parity p) h.1 in omega arith
        one j u (Caller n) e h = let z : is_caller u.role ≡ 1 = ap is_caller e in let m = passing.at_most p u.rights.pass in omega arith
        one j u Admin e h = let z : at_parity p u.rights.pass ≡ 0 = ap (at_parity p) h.outside in omega arith

  -- raising the number: one fetch_add of the gate word
  pub raise : (slots id : ℕ) (me : Me (Option V) (View E D O)) (w by ver : ℕ) → me.0.role ≡ Admin → me.0.ticket ≡ Served w → settled_in M.kind me.0.seen ≡ me.0.admin_view.newest
      → ((f : Fixed D O) → me.0.fixed ≡ Some f → (me.0.admin_view.newest < f.most) × (ver < (decides f.decider).versions)) → by + me.0.admin_view.version * 68719476736 ≡ 17592186044416 + ver * 68719476736
      → Allows (RuleHolds M decides k) slots id me 0 (λ n. (n + by) % 18446744073709551616) (told.raises M decides (step slots 0 by 0 none) me)
  raise slots id me w by ver is turn at_rest ask amount s r deep at low =
      let v = me.0 in
      let g = get_or s.words 0 0 in
      let l = (g + by) % 18446744073709551616 in
      let ws = set s.words 0 l in
      let v' = raised v g l in
      let h = admin_is s r id v at is in
      let alive = admin_live s r id v at is in
      let named : v.fixed ≡ Some (fixed_of M k) = h.fixed in
      let asked = ask (fixed_of M k) named in
      let seen = has_seen M decides k s r id v w at turn in
      let rs = map rights_of s.views in
      let un = (k.seats - r.t.made) * k.quota in
      let c = r.t.newest in
      let b = small M decides k s r in
      let f = passing.fields rs c r.t.settled r.t.forced r.t.counted un r.t.clear r.t.version g (get_or s.words 1 0) (get_or s.words 2 0) r.passes b.0 b.1 in
      let rest : r.t.settled ≡ c = sym r.acknowledged.0 ∙ (ap (settled_in M.kind) (sym seen.1) ∙ (at_rest ∙ h.newest)) in
      let below : c + 1 < 1048576 = let m = r.dated.within in let x = asked.0 in let y = h.newest in omega arith in
      let ver_small : ver < 256 = let x = asked.1 in let y = r.dated.bounds in omega arith in
      let amount' : by + r.t.version c * 68719476736 ≡ 17592186044416 + ver * 68719476736 = subst (λ (x : ℕ). by + x * 68719476736 ≡ 17592186044416 + ver * 68719476736) h.version amount in
      let raised_passes = passing.raises rs c r.t.settled r.t.forced r.t.counted un r.t.clear r.t.version g (get_or s.words 1 0) (get_or s.words 2 0) r.passes by ver rest below b.1 ver_small amount' in
      let few = passing.few rs c r.t.settled r.t.forced r.t.counted un r.t.clear r.t.version g (get_or s.words 1 0) (get_or s.words 2 0) r.passes in
      let there = put_here r.t.version (c + 1) ver in
      let left_is = passing.gate_fields l (c + 1) ver r.passes.entered (passing.raised_word rs c r.t.settled r.t.forced r.t.counted un r.t.clear r.t.version g (get_or s.words 1 0) (get_or s.words 2 0) r.passes by ver below b.1 ver_small amount') (below, ver_small, (let z = few in omega arith)) in
      let first : id ≡ 0 = h.first in
      let in_c = passing.counted_in rs c r.t.settled r.t.forced r.t.counted un r.t.clear r.t.version g (get_or s.words 1 0) (get_or s.words 2 0) r.passes in
      let last : last_notice M.kind r.t.log ≡ (c, r.t.version c) = ⊎_elim (λ e. e) (λ p. let z = p.5 in absurd (omega arith)) r.noticed in
      let t' : Truth E = record r.t { newest = c + 1; counted = r.passes.entered - r.t.counted; version = put r.t.version (c + 1) ver } in
      let kept : RuleHolds M decides k (record { words = ws; homes = s.homes; views = set s.views id v' }) = record {
        t = t';
        wide = length-set s.words 0 l ∙ r.wide;
        seats = (length-set s.views id v' ∙ r.seats.0, r.seats.1, r.seats.2);
        first = subst (λ (l : List Role). get_elem? l 0 ≡ some Admin) (sym (map_kept role_of s.views id v v' at refl)) r.first;
        numbers = subst (λ (x : List Role). sum_by is_caller x + r.t.gone ≡ r.t.made) (sym (map_kept role_of s.views id v v' at refl)) r.numbers;
        tickets = subst (λ (x : List Ticket). Tickets x (get_or ws 3 0) (get_or ws 4 0)) (sym (map_kept ticket_of s.views id v v' at refl))
            (tickets_at (map ticket_of s.views) (get_or s.words 3 0) (get_or s.words 4 0) (get_or ws 3 0) (get_or ws 4 0) (word_else s.words 0 3 l (λ e. omega arith)) (word_else s.words 0 4 l (λ e. omega arith)) r.tickets);
        passes = subst (λ (x : List Rights). Passes x (c + 1) r.t.settled r.t.forced (r.passes.entered - r.t.counted) un r.t.clear (put r.t.version (c + 1) ver) (get_or ws 0 0) (get_or ws 1 0) (get_or ws 2 0)) (sym (map_kept rights_of s.views id v v' at refl))
            (passes_at rs (c + 1) r.t.settled r.t.forced (r.passes.entered - r.t.counted) un r.t.clear (put r.t.version (c + 1) ver) l (get_or s.words 1 0) (get_or s.words 2 0) (get_or ws 0 0) (get_or ws 1 0) (get_or ws 2 0)
            (word_here s.words 0 l (let z = r.wide in omega arith)) (word_else s.words 0 1 l (λ e. omega arith)) (word_else s.words 0 2 l (λ e. omega arith)) raised_passes);
        rows = rows_else (decides (fixed_of M k).decider) (c + 1) (put r.t.version (c + 1) ver) s.words 0 l (omega arith)
            (λ i from to. rowing.rows_raised (decides (fixed_of M k).decider) c r.t.version ver (get_or s.words i 0) (r.rows i from to));
        acknowledged = r.acknowledged;
        noticed = inr (v', subst (λ (j : ℕ). get_elem? (set s.views id v') j ≡ some v') first (set_here s.views id v' (within s.views id v at)), ap has_turn turn, is, ap (λ (p : ℕ × ℕ). p.0) last ∙ sym rest, ap (λ (x : ℕ). x + 1) (sym rest));
        dated = record {
          within = ((let m = asked.0 in let y = h.newest in omega arith), r.dated.within.1);
          bounds = r.dated.bounds;
          known = λ m le. dite (ℕ_discrete m (c + 1))
              (λ e. subst (λ (x : ℕ). put r.t.version (c + 1) ver x < (decides (fixed_of M k).decider).versions) (sym e) (subst (λ (x : ℕ). x < (decides (fixed_of M k).decider).versions) (sym there) asked.1))
              (λ ne. subst (λ (x : ℕ). x < (decides (fixed_of M k).decider).versions) (sym (put_else r.t.version (c + 1) ver m ne)) (r.dated.known m (omega arith)));
          told = λ m lt. put_else r.t.version (c + 1) ver m (λ e. omega arith) ∙ dite (ℕ_discrete m c)
              (λ e. ap r.t.version e ∙ (sym (version_last M.kind r.t.log c (r.t.version c) last) ∙ ap (λ (x : ℕ). version_of M.kind x r.t.log) (sym e)))
              (λ ne. r.dated.told m (omega arith));
        };
        begins = r.begins;
        promised = r.promised;
        place = inr (id, v', seen.0, set_here s.views id v' (within s.views id v at), ap has_turn turn, seen.1, seen.2);
        each = each_set (Fits M (fixed_of M k) t') s.views id v'
            (let z = r.each id v at in record {
              seen = z.seen;
              promised = z.promised;
              noticed = (let y = z.noticed in omega arith);
              role = subst (FitsRole M (fixed_of M k) (record r.t { newest = r.t.newest + 1; counted = r.passes.entered - r.t.counted; version = put r.t.version (r.t.newest + 1) ver }) id v') (sym is)
                  (record { first = h.first; made = h.made; retired = h.retired; ended = h.ended; newest = ap (λ (x : ℕ). x + 1) h.newest; version = left_is.1 ∙ sym there; counted = λ i. f.2 i - h.counted i; clear = h.clear; controls_are = h.controls_are; known = h.known; fixed = h.fixed; outside = h.outside; turns = h.turns; once = h.once });
            })
            (λ j u other e. let z = r.each j u e in record { seen = z.seen; promised = z.promised; noticed = (let y = z.noticed in omega arith); role = others s r id v at is ver j other u u.role z.role });
        unmade = r.unmade;
      } in (
        v',
        keeps,
        tt,
        kept,
        (
          refl,
          r.passes.gate_is ∙ (λ i. gate_word (sym h.newest i) (sym h.version i) (sym f.2 i)),
          (subst (λ (x : ℕ). x + 1 < 1048576) (sym h.newest) below, subst (λ (x : ℕ). x < 256) (sym h.version) b.1, subst (λ (x : ℕ). x < 68719476736) (sym f.2) (let z = few in omega arith)),
          (let x = f.2 in let y = h.counted in let z = in_c in omega arith),
          stood M decides k s r id v at alive 0,
        ),
      )
    where
      others : (s : State (Option V) (View E D O)) (r : RuleHolds M decides k s) (id : ℕ) (v : View E D O) (at : get_elem? s.views id ≡ some v) (is : v.role ≡ Admin) (ver : ℕ) (j : ℕ) → j ≢ id → (u : View E D O) → (role : Role) → FitsRole M (fixed_of M k) r.t j u role
          → FitsRole M (fixed_of M k) (record r.t { newest = r.t.newest + 1; counted = r.passes.entered - r.t.counted; version = put r.t.version (r.t.newest + 1) ver }) j u role
      others s r id v at is ver j other u Spent h = h
      others s r id v at is ver j other u (Caller n) h = h
      others s r id v at is ver j other u Admin h = absurd (one_admin s r id v at is j other u r.t h)

  -- counting the older passes: one load of the leave counter of the other parity
  pub count : (slots id : ℕ) (me : Me (Option V) (View E D O)) (w : ℕ) → me.0.role ≡ Admin → me.0.ticket ≡ Served w → settled_in M.kind me.0.seen ≢ me.0.admin_view.newest
      → (i : ℕ) → i ≡ leave_word (me.0.admin_view.newest + 1) → Allows (RuleHolds M decides k) slots id me i (λ n. n) (told.counts M decides (step slots i 0 0 none) me)
  count slots id me w is turn pending i at_word s r deep at low =
      let v = me.0 in
      let g = get_or s.words i 0 in
      let v' = counted v g in
      let h = admin_is s r id v at is in
      let alive = admin_live s r id v at is in
      let seen = has_seen M decides k s r id v w at turn in
      let rs = map rights_of s.views in
      let un = (k.seats - r.t.made) * k.quota in
      let c = r.t.newest in
      let q = (c + 1) % 2 in
      let word_is : i ≡ 1 + (c + 1) % 2 = at_word ∙ ap leave_word (ap (λ (x : ℕ). x + 1) h.newest) in
      let g_is : g ≡ left_of (get_or s.words 1 0) (get_or s.words 2 0) ((c + 1) % 2) = ap (λ (x : ℕ). get_or s.words x 0) word_is ∙ counter_is s.words ((c + 1) % 2) (omega arith) in
      let sum = r.passes.there in
      let apart : r.t.settled ≢ c = λ e. pending (ap (settled_in M.kind) seen.1 ∙ (r.acknowledged.0 ∙ (e ∙ sym h.newest))) in
      let next : c ≡ r.t.settled + 1 = let z = r.passes.between in omega arith in
      let b = eqb (r.t.counted - g) 0 in
      let t' : Truth E = record r.t { clear = cond (eqb (r.t.counted - g) 0) r.t.newest r.t.clear } in
      let cleared : Passes rs c r.t.settled r.t.forced r.t.counted un (cond (eqb (r.t.counted - g) 0) c r.t.clear) r.t.version (get_or s.words 0 0) (get_or s.words 1 0) (get_or s.words 2 0) =
      clears s r (eqb (r.t.counted - g) 0) (λ e. let z : r.t.counted - g ≡ 0 = eqb-true (r.t.counted - g) 0 e in
      passing.clears rs c r.t.settled r.t.forced r.t.counted un r.t.clear r.t.version (get_or s.words 0 0) (get_or s.words 1 0) (get_or s.words 2 0) r.passes next (omega arith)) in
      let kept : RuleHolds M decides k (record { words = s.words; homes = s.homes; views = set s.views id v' }) = record {
        t = t';
        wide = r.wide;
        seats = (length-set s.views id v' ∙ r.seats.0, r.seats.1, r.seats.2);
        first = subst (λ (l : List Role). get_elem? l 0 ≡ some Admin) (sym (map_kept role_of s.views id v v' at refl)) r.first;
        numbers = subst (λ (x : List Role). sum_by is_caller x + r.t.gone ≡ r.t.made) (sym (map_kept role_of s.views id v v' at refl)) r.numbers;
        tickets = subst (λ (x : List Ticket). Tickets x (get_or s.words 3 0) (get_or s.words 4 0)) (sym (map_kept ticket_of s.views id v v' at refl)) r.tickets;
        passes = subst (λ (x : List Rights). Passes x c r.t.settled r.t.forced r.t.counted un (cond (eqb (r.t.counted - g) 0) c r.t.clear) r.t.version (get_or s.words 0 0) (get_or s.words 1 0) (get_or s.words 2 0)) (sym (map_kept rights_of s.views id v v' at refl)) cleared;
        rows = r.rows;
        acknowledged = r.acknowledged;
        noticed = ⊎_elim (λ e. inl e) (λ p. inr (v', subst (λ (j : ℕ). get_elem? (set s.views id v') j ≡ some v') h.first (set_here s.views id v' (within s.views id v at)), ap has_turn turn, is, p.4, p.5)) r.noticed;
        dated = r.dated;
        begins = r.begins;
        promised = r.promised;
        place = inr (id, v', seen.0, set_here s.views id v' (within s.views id v at), ap has_turn turn, seen.1, seen.2);
        each = each_set (Fits M (fixed_of M k) t') s.views id v'
            (let z = r.each id v at in record {
              seen = z.seen;
              promised = z.promised;
              noticed = z.noticed;
              role = subst (FitsRole M (fixed_of M k) (record r.t { clear = cond (eqb (r.t.counted - g) 0) r.t.newest r.t.clear }) id v') (sym is)
                  (record { first = h.first; made = h.made; retired = h.retired; ended = h.ended; newest = h.newest; version = h.version; counted = h.counted; clear = λ j. cond (eqb (h.counted j - g) 0) (h.newest j) (h.clear j); controls_are = h.controls_are; known = h.known; fixed = h.fixed; outside = h.outside; turns = h.turns; once = h.once });
            })
            (λ j u other e. let z = r.each j u e in record { seen = z.seen; promised = z.promised; noticed = z.noticed; role = others s r id v at is g j other u u.role z.role });
        unmade = r.unmade;
      } in (
        v',
        keeps,
        tt,
        subst (λ (ws : List ℕ). RuleHolds M decides k (record { words = ws; homes = s.homes; views = set s.views id v' })) (sym (word_same s.words i)) kept,
        (refl, (let y = h.counted in omega arith), (let y = h.counted in let o = out_within s r id v at is ((c + 1) % 2) in omega arith), stood M decides k s r id v at alive i),
      )
    where
      clears : (s : State (Option V) (View E D O)) (r : RuleHolds M decides k s) (b : Bool)
          → (b ≡ true → Passes (map rights_of s.views) r.t.newest r.t.settled r.t.forced r.t.counted ((k.seats - r.t.made) * k.quota) r.t.newest r.t.version (get_or s.words 0 0) (get_or s.words 1 0) (get_or s.words 2 0))
          → Passes (map rights_of s.views) r.t.newest r.t.settled r.t.forced r.t.counted ((k.seats - r.t.made) * k.quota) (cond b r.t.newest r.t.clear) r.t.version (get_or s.words 0 0) (get_or s.words 1 0) (get_or s.words 2 0)
      clears s r true p = p refl
      clears s r false p = r.passes

      others : (s : State (Option V) (View E D O)) (r : RuleHolds M decides k s) (id : ℕ) (v : View E D O) (at : get_elem? s.views id ≡ some v) (is : v.role ≡ Admin) (g : ℕ) (j : ℕ) → j ≢ id → (u : View E D O) → (role : Role) → FitsRole M (fixed_of M k) r.t j u role
          → FitsRole M (fixed_of M k) (record r.t { clear = cond (eqb (r.t.counted - g) 0) r.t.newest r.t.clear }) j u role
      others s r id v at is g j other u Spent h = h
      others s r id v at is g j other u (Caller n) h = h
      others s r id v at is g j other u Admin h = absurd (one_admin s r id v at is j other u r.t h)

  -- a glance at the gate word by the administrator
  pub glance : (slots id : ℕ) (me : Me (Option V) (View E D O)) → me.0.role ≡ Admin → Allows (RuleHolds M decides k) slots id me 0 (λ n. n) (told.glances M decides (step slots 0 0 0 none) me)
  glance slots id me is s r deep at low =
      let v = me.0 in
      let g = get_or s.words 0 0 in
      let alive = admin_live s r id v at is in (
        glanced v g,
        keeps,
        tt,
        loads M decides k s r id v at (traced v.trace (done 0 g g)) v.served 0 alive,
        (refl, (let h = admin_is s r id v at is in let a = h.made in let b = h.retired in let n = r.numbers in omega arith), stood M decides k s r id v at alive 0),
      )
