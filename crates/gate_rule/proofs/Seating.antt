-- The kinds of step that make a seat and retire one keep the rule; so does the opening; and what the end tells.
use Rattle.std.proofs.Common.{◌≡◌, ◌≢◌, ℕ, zero, suc, ◌+◌, ◌-◌, ◌*◌, ◌<◌, ◌≤◌, Bool, true, false, cond, List, [], ◌∷◌, ◌++◌, map, length, get_or, set, sym, refl, ap, ◌∙◌, subst, inl, inr, ⊎_elim, length-set, Option, Some, arith}
use Rattle.std.specs.List.{sum_by}
use mathlib.Core.Option.{some, some-injective, some-ne-none}
use lib.ListN.{get_elem?}
use Rattle.atomic_table.specs.Table.{State}
use Rattle.atomic_table.proofs.Lists.{at_map}
use Rattle.access_vectors.specs.Decisions.{Decisions}
use Rattle.gate_rule.specs.declared.view.Role.{Role}
use Rattle.gate_rule.specs.declared.view.Role.TheVariants.{Spent, Caller, Admin}
use Rattle.gate_rule.specs.declared.view.Ticket.{Ticket}
use Rattle.gate_rule.specs.declared.view.Ticket.TheVariants.{Without}
use Rattle.gate_rule.specs.declared.view.Pass.TheVariants.{Out}
use Rattle.gate_rule.specs.declared.view.Rights.{Rights}
use Rattle.gate_rule.specs.declared.view.Ended.{Ended}
use Rattle.gate_rule.specs.declared.view.Item.{Item}
use Rattle.gate_rule.specs.declared.view.Fixed.{Fixed}
use Rattle.gate_rule.specs.declared.view.View.{View}
use Rattle.gate_rule.specs.declared.journal.Terms.{Terms}
use Rattle.gate_rule.specs.History.{of_caller, controls, last_notice, StartsWith}
use Rattle.gate_rule.specs.Meaning.{Means}
use Rattle.gate_rule.specs.Tickets.{Tickets, FitsTicket, has_turn}
use Rattle.gate_rule.specs.Passes.{Passes, FitsPass}
use Rattle.gate_rule.specs.Views.{IsLive, is_caller}
use Rattle.gate_rule.specs.Rule.{RuleHolds, Truth, Fits, FitsRole, FitsEnded, IsHome, IsOut, IsOf, HasOf, IsTurn, role_of, ticket_of, rights_of, fixed_of}
use Rattle.gate_rule.specs.Told.{Closes}
use Rattle.gate_rule.proofs.Places.{each_set, map_kept, map_moved, same_place}
use Rattle.gate_rule.proofs.Serving as serving
use Rattle.gate_rule.proofs.Passing as passing
use Rattle.std.proofs.Common.{nat_le, leb-true, mul-le-mul_right, suc-mul, length-append}
use Rattle.std.proofs.lemmas.List.Sums.{sum_by_push}
use Rattle.atomic_table.specs.Table.{Splits, Joins, opening}
use Rattle.atomic_table.proofs.Lists.{set_else, at_longer}
use Rattle.gate_rule.specs.Views.{with_seat, new_seat, with_ended, spent_seat, first_seat, quota_in, caller_of, longer}
use Rattle.gate_rule.proofs.Places.{put, put_here, put_else, sum_set, sum_at, each_more, once_more, map_more, kept_at}
use Rattle.gate_rule.proofs.Histories.{controls_longer, longer_whole}
use Rattle.gate_rule.proofs.Numbers.{admin_is, one_admin}
use Rattle.gate_rule.proofs.Steps.{same_fixed}

-- the only item of a list of one
one_only : {A : Type 0} (P : ℕ → A → Type 0) (a : A) → P 0 a → (j : ℕ) (b : A) → get_elem? (a ∷ []) j ≡ some b → P j b
one_only P a h zero b e = subst (P 0) (some-injective a b e) h
one_only P a h (suc j) b e = absurd (some-ne-none b (sym e))

module _ {V E D O : Type 0} (M : Means V E D O) (decides : D → Decisions) (k : Terms V D) where
  -- a number that is given to a new seat changes nothing of the seats that are there
  stays_made : (t : Truth E) (j new : ℕ) (u : View E D O) (role : Role) → FitsRole M (fixed_of M k) t j u role → (role ≡ Admin → ⊥) → FitsRole M (fixed_of M k) (record t { made = t.made + 1; holder = put t.holder t.made new; live = put t.live t.made true }) j u role
  stays_made t j new u Spent h plain = h
  stays_made t j new u (Caller n) h plain =
      let lt = h.0 in (omega arith, put_else t.holder t.made new n (λ e. omega arith) ∙ h.1, put_else t.live t.made true n (λ e. omega arith) ∙ h.2, h.3, h.4)
  stays_made t j new u Admin h plain = absurd (plain refl)

  ended_made : (t : Truth E) (new : ℕ) (e : Ended E) → FitsEnded M t e → FitsEnded M (record t { made = t.made + 1; holder = put t.holder t.made new; live = put t.live t.made true }) e
  ended_made t new e h = let lt = h.0 in (omega arith, put_else t.live t.made true e.number (λ z. omega arith) ∙ h.1, h.2)

  -- making a seat
  pub make : (id : ℕ) (v : View E D O) → v.role ≡ Admin → ((f : Fixed D O) → v.fixed ≡ Some f → v.admin_view.made < f.seats)
      → Splits (RuleHolds M decides k) id v (with_seat v) (new_seat v)
  make id v is room s r at =
      let h = admin_is M decides k s r id v at is in
      let named : v.fixed ≡ Some (fixed_of M k) = h.fixed in
      let open_seat : r.t.made < k.seats = let a = room (fixed_of M k) named in let b = h.made in omega arith in
      let v' = with_seat v in
      let new = new_seat v in
      let before = set s.views id v' in
      let here = length (set s.views id v') in
      let t' : Truth E = record r.t { made = r.t.made + 1; holder = put r.t.holder r.t.made here; live = put r.t.live r.t.made true } in
      let tickets_are : map ticket_of (before ++ new ∷ []) ≡ map ticket_of s.views ++ Without ∷ [] = map_more ticket_of before new ∙ ap (λ (l : List Ticket). l ++ Without ∷ []) (map_kept ticket_of s.views id v v' at refl) in
      let quota_is : quota_in v.fixed ≡ k.quota = ap quota_in named in
      let rights_are : map rights_of (before ++ new ∷ []) ≡ map rights_of s.views ++ (record { pass = Out; quota = k.quota }) ∷ [] =
      map_more rights_of before new ∙ (λ i. map_kept rights_of s.views id v v' at refl i ++ (record { pass = Out; quota = quota_is i }) ∷ []) in
      let roles_are : map role_of (before ++ new ∷ []) ≡ map role_of s.views ++ Caller v.admin_view.made ∷ [] = map_more role_of before new ∙ ap (λ (l : List Role). l ++ Caller v.admin_view.made ∷ []) (map_kept role_of s.views id v v' at refl) in
      let left_is : k.seats - r.t.made ≡ suc (k.seats - (r.t.made + 1)) = omega arith in
      let unmade_is : (k.seats - (r.t.made + 1)) * k.quota + k.quota ≡ (k.seats - r.t.made) * k.quota =
      let e : suc (k.seats - (r.t.made + 1)) * k.quota ≡ (k.seats - (r.t.made + 1)) * k.quota + k.quota = suc-mul (k.seats - (r.t.made + 1)) k.quota in sym (ap (λ (x : ℕ). x * k.quota) left_is ∙ e) in
      record {
        t = t';
        wide = r.wide;
        seats = ((let a = length-append before (new ∷ []) in let b = length-set s.views id v' in let c = r.seats.0 in omega arith), (let q = open_seat in omega arith), r.seats.2);
        first = subst (λ (l : List Role). get_elem? l 0 ≡ some Admin) (sym roles_are) (at_longer (map role_of s.views) (Caller v.admin_view.made ∷ []) 0 Admin r.first);
        numbers = subst (λ (l : List Role). sum_by is_caller l + r.t.gone ≡ r.t.made + 1) (sym roles_are) (let n = r.numbers in omega (arith, sum_by_push is_caller (map role_of s.views) (Caller v.admin_view.made)));
        tickets = subst (λ (l : List Ticket). Tickets l (get_or s.words 3 0) (get_or s.words 4 0)) (sym tickets_are) (serving.joins (map ticket_of s.views) (get_or s.words 3 0) (get_or s.words 4 0) r.tickets);
        passes = subst (λ (l : List Rights). Passes l r.t.newest r.t.settled r.t.forced r.t.counted ((k.seats - (r.t.made + 1)) * k.quota) r.t.clear r.t.version (get_or s.words 0 0) (get_or s.words 1 0) (get_or s.words 2 0)) (sym rights_are)
            (passing.makes (map rights_of s.views) r.t.newest r.t.settled r.t.forced r.t.counted ((k.seats - r.t.made) * k.quota) r.t.clear r.t.version (get_or s.words 0 0) (get_or s.words 1 0) (get_or s.words 2 0) r.passes k.quota ((k.seats - (r.t.made + 1)) * k.quota) unmade_is);
        rows = r.rows;
        acknowledged = r.acknowledged;
        noticed = ⊎_elim (λ e. inl e) (λ p.
            let u = kept_at (λ (x : View E D O). (has_turn x.ticket ≡ true) × (x.role ≡ Admin)) s.views id v v' at (λ (g : _). g) 0 p.0 p.1 (p.2, p.3) in
            inr (u.0, at_longer before (new ∷ []) 0 u.0 u.1, u.2.0, u.2.1, p.4, p.5)) r.noticed;
        dated = r.dated;
        begins = r.begins;
        promised = r.promised;
        place = ⊎_elim (λ p. inl (
          p.0,
          p.1,
          p.2,
          each_more (λ j (x : View E D O). has_turn x.ticket ≡ false) before new refl
              (each_set (λ j (x : View E D O). has_turn x.ticket ≡ false) s.views id v' (p.3 id v at) (λ j x other e. p.3 j x e)),
          p.4,
          p.5,
          p.6,
        ))
            (λ p.
            let u = kept_at (λ (x : View E D O). (has_turn x.ticket ≡ true) × (x.seen ≡ r.t.log) × HasOf M (fixed_of M k) x) s.views id v v' at (λ (g : _). g) p.0 p.1 p.3 (p.4, p.5, p.6) in
            inr (p.0, u.0, p.2, at_longer before (new ∷ []) p.0 u.0 u.1, u.2.0, u.2.1, u.2.2)) r.place;
        each = each_more (Fits M (fixed_of M k) t') before new
            (record { seen = (r.t.log, refl); promised = r.begins; noticed = omega arith; role = new_role r h named here })
            (each_set (Fits M (fixed_of M k) t') s.views id v'
            (let z = r.each id v at in record {
              seen = z.seen;
              promised = z.promised;
              noticed = z.noticed;
              role = subst (FitsRole M (fixed_of M k) (record r.t { made = r.t.made + 1; holder = put r.t.holder r.t.made here; live = put r.t.live r.t.made true }) id v') (sym is)
                  (record { first = h.first; made = ap (λ (x : ℕ). x + 1) h.made; retired = h.retired; ended = λ i e there. ended_made r.t here e (h.ended i e there); newest = h.newest; version = h.version; counted = h.counted; clear = h.clear; controls_are = h.controls_are; known = h.known; fixed = h.fixed; outside = h.outside; turns = h.turns; once = h.once });
            })
            (λ j u other e. let z = r.each j u e in record {
              seen = z.seen;
              promised = z.promised;
              noticed = z.noticed;
              role = stays_made r.t j here u u.role z.role (λ admin. one_admin M decides k s r id v at is j other u r.t (subst (FitsRole M (fixed_of M k) r.t j u) admin z.role));
            }));
        unmade = λ n le. r.unmade n (omega arith);
      }
    where
      new_role : (r : RuleHolds M decides k s) → FitsRole M (fixed_of M k) r.t id v Admin → v.fixed ≡ Some (fixed_of M k) → (here : ℕ)
          → FitsRole M (fixed_of M k) (record r.t { made = r.t.made + 1; holder = put r.t.holder r.t.made here; live = put r.t.live r.t.made true }) here (new_seat v) (Caller v.admin_view.made)
      new_role r h named here =
          subst (λ (x : ℕ). FitsRole M (fixed_of M k) (record r.t { made = r.t.made + 1; holder = put r.t.holder r.t.made here; live = put r.t.live r.t.made true }) here (new_seat v) (Caller x)) (sym h.made)
          (omega arith, put_here r.t.holder r.t.made here, put_here r.t.live r.t.made true, sym (r.unmade r.t.made (omega arith)), named)

  -- a retired number changes nothing of the other seats
  stays_live : (t : Truth E) (n other : ℕ) → t.holder n ≡ other → (j : ℕ) → j ≢ other → (u : View E D O) (role : Role) → FitsRole M (fixed_of M k) t j u role → (role ≡ Admin → ⊥)
      → FitsRole M (fixed_of M k) (record t { gone = t.gone + 1; live = put t.live n false }) j u role
  stays_live t n other held j apart u Spent h plain = h
  stays_live t n other held j apart u (Caller m) h plain = (h.0, h.1, put_else t.live n false m (λ e. apart (sym h.1 ∙ (ap t.holder e ∙ held))) ∙ h.2, h.3, h.4)
  stays_live t n other held j apart u Admin h plain = absurd (plain refl)

  -- of two beginnings of the history, the longer is one too, and has all notices and acknowledgements where the first has
  longer_fits : (f : Fixed D O) (log a b : List E) (newest : ℕ) (P : List E → Type 0) → P a → P b → P (longer a b)
  longer_fits f log a b newest P pa pb = go (nat_le (length a) (length b))
    where
      go : (x : Bool) → P (cond x b a)
      go true = pb
      go false = pa

  longer_controls : (log a b : List E) → StartsWith log a → StartsWith log b → controls M.kind log ≡ controls M.kind a → controls M.kind (longer a b) ≡ controls M.kind a
  longer_controls log a b pa pb same = go (nat_le (length a) (length b)) refl
    where
      go : (x : Bool) → nat_le (length a) (length b) ≡ x → controls M.kind (cond x b a) ≡ controls M.kind a
      go true e = controls_longer M.kind log a b pa pb (leb-true (length a) (length b) e) same
      go false e = refl

  -- with the turn, the administrator has seen all already
  all_seen : (f : Fixed D O) (v w : View E D O) (log : List E) → StartsWith log w.seen → (has_turn v.ticket ≡ true) × (v.seen ≡ log) × HasOf M f v
      → (has_turn v.ticket ≡ true) × (longer v.seen w.seen ≡ log) × HasOf M f (with_ended v w)
  all_seen f v w log begins g =
      let same : longer v.seen w.seen ≡ log = longer_whole log v.seen w.seen begins g.1 in
      (g.0, same, (g.2.0, g.2.1, g.2.2 ∙ (g.1 ∙ sym same), g.2.3, g.2.4))

  -- retiring a seat
  pub retire : (id : ℕ) (v : View E D O) (other : ℕ) (w : View E D O) (n : ℕ) → v.role ≡ Admin → w.role ≡ Caller n → w.ticket ≡ Without → w.rights.pass ≡ Out
      → Joins (RuleHolds M decides k) id v other w (with_ended v w) spent_seat
  retire id v other w n is caller waits out s r at apart there =
      let h = admin_is M decides k s r id v at is in
      let v' = with_ended v w in
      let spent : View E D O = spent_seat in
      let before = set s.views id v' in
      let old : get_elem? s.views other ≡ some w = sym (set_else s.views id other v' apart) ∙ there in
      let fit = r.each other w old in
      let own = subst (FitsRole M (fixed_of M k) r.t other w) caller fit.role in
      let mine = r.each id v at in
      let t' : Truth E = record r.t { gone = r.t.gone + 1; live = put r.t.live n false } in
      let tickets_are : map ticket_of (set before other spent) ≡ map ticket_of s.views = map_kept ticket_of before other w spent there (sym waits) ∙ map_kept ticket_of s.views id v v' at refl in
      let rights_in : map rights_of before ≡ map rights_of s.views = map_kept rights_of s.views id v v' at refl in
      let rights_are : map rights_of (set before other spent) ≡ set (map rights_of s.views) other (record { pass = Out; quota = 0 }) = map_moved rights_of before other spent (record { pass = Out; quota = 0 }) refl ∙ ap (λ (l : List Rights). set l other (record { pass = Out; quota = 0 })) rights_in in
      let roles_in : map role_of before ≡ map role_of s.views = map_kept role_of s.views id v v' at refl in
      let roles_are : map role_of (set before other spent) ≡ set (map role_of s.views) other Spent = map_moved role_of before other spent Spent refl ∙ ap (λ (l : List Role). set l other Spent) roles_in in
      record {
        t = t';
        wide = r.wide;
        seats = (length-set before other spent ∙ (length-set s.views id v' ∙ r.seats.0), r.seats.1, r.seats.2);
        first = subst (λ (l : List Role). get_elem? l 0 ≡ some Admin) (sym roles_are) (set_else (map role_of s.views) other 0 Spent (λ e. apart (sym e ∙ sym h.first)) ∙ r.first);
        numbers = subst (λ (l : List Role). sum_by is_caller l + (r.t.gone + 1) ≡ r.t.made) (sym roles_are)
            (let x = sum_set is_caller (map role_of s.views) other (Caller n) Spent (at_map role_of s.views other w old ∙ ap some caller) in let y = r.numbers in omega arith);
        tickets = subst (λ (l : List Ticket). Tickets l (get_or s.words 3 0) (get_or s.words 4 0)) (sym tickets_are) r.tickets;
        passes = subst (λ (l : List Rights). Passes l r.t.newest r.t.settled r.t.forced r.t.counted ((k.seats - r.t.made) * k.quota) r.t.clear r.t.version (get_or s.words 0 0) (get_or s.words 1 0) (get_or s.words 2 0)) (sym rights_are)
            (passing.retires (map rights_of s.views) r.t.newest r.t.settled r.t.forced r.t.counted ((k.seats - r.t.made) * k.quota) r.t.clear r.t.version (get_or s.words 0 0) (get_or s.words 1 0) (get_or s.words 2 0) r.passes other w.rights (at_map rights_of s.views other w old) out);
        rows = r.rows;
        acknowledged = r.acknowledged;
        noticed = ⊎_elim (λ e. inl e) (λ p.
            let u = kept_at (λ (x : View E D O). (has_turn x.ticket ≡ true) × (x.role ≡ Admin)) s.views id v v' at (λ (g : _). g) 0 p.0 p.1 (p.2, p.3) in
            inr (u.0, set_else before other 0 spent (λ e. apart (sym e ∙ sym h.first)) ∙ u.1, u.2.0, u.2.1, p.4, p.5)) r.noticed;
        dated = r.dated;
        begins = r.begins;
        promised = r.promised;
        place = ⊎_elim
            (λ p. inl (
              p.0,
              p.1,
              p.2,
              each_set (λ j (x : View E D O). has_turn x.ticket ≡ false) before other spent refl
                  (λ j x ne e. each_set (λ j (x : View E D O). has_turn x.ticket ≡ false) s.views id v' (p.3 id v at) (λ j x ne e. p.3 j x e) j x e),
              p.4,
              p.5,
              p.6,
            ))
            (λ p.
            let u = kept_at (λ (x : View E D O). (has_turn x.ticket ≡ true) × (x.seen ≡ r.t.log) × HasOf M (fixed_of M k) x) s.views id v v' at
            (all_seen (fixed_of M k) v w r.t.log fit.seen) p.0 p.1 p.3 (p.4, p.5, p.6) in
            let not_other : p.0 ≢ other = λ e. let z : p.1 ≡ w = same_place s.views other p.1 w (subst (λ (j : ℕ). get_elem? s.views j ≡ some p.1) e p.3) old in
            let turn : has_turn w.ticket ≡ true = subst (λ (x : View E D O). has_turn x.ticket ≡ true) z p.4 in let no : has_turn w.ticket ≡ false = ap has_turn waits in absurd (cc) in
            inr (p.0, u.0, p.2, set_else before other p.0 spent not_other ∙ u.1, u.2.0, u.2.1, u.2.2)) r.place;
        each = each_set (Fits M (fixed_of M k) t') before other spent
            (record { seen = (r.t.log, refl); promised = r.begins; noticed = omega arith; role = (refl, refl) })
            (λ j u ne e. each_set (λ j (u : View E D O). j ≢ other → Fits M (fixed_of M k) t' j u) s.views id v'
            (λ _. record {
              seen = longer_fits (fixed_of M k) r.t.log v.seen w.seen r.t.newest (StartsWith r.t.log) mine.seen fit.seen;
              promised = longer_fits (fixed_of M k) r.t.log v.seen w.seen r.t.newest (M.promise (fixed_of M k).opening (fixed_of M k).decider) mine.promised fit.promised;
              noticed = longer_fits (fixed_of M k) r.t.log v.seen w.seen r.t.newest (λ l. (last_notice M.kind l).0 ≤ r.t.newest) mine.noticed fit.noticed;
              role = subst (FitsRole M (fixed_of M k) (record r.t { gone = r.t.gone + 1; live = put r.t.live n false }) id v') (sym is) (record {
                first = h.first;
                made = h.made;
                retired = (let x = length-append v.admin_view.ended ((record { number = caller_of w.role; entries = w.mine }) ∷ []) in let y = h.retired in omega arith);
                ended = each_more (λ i (e : Ended E). FitsEnded M (record r.t { gone = r.t.gone + 1; live = put r.t.live n false }) e) v.admin_view.ended (record { number = caller_of w.role; entries = w.mine })
                    (let num : caller_of w.role ≡ n = ap caller_of caller in
                    (subst (λ (x : ℕ). x < r.t.made) (sym num) own.0, ap (put r.t.live n false) num ∙ put_here r.t.live n false, own.3 ∙ ap (λ (x : ℕ). of_caller M.kind x r.t.log) (sym num)))
                    (λ i e at_i. let z = h.ended i e at_i in (z.0, put_else r.t.live n false e.number (λ q. let a : r.t.live e.number ≡ true = ap r.t.live q ∙ own.2 in let b = z.1 in absurd (cc)) ∙ z.1, z.2));
                newest = h.newest;
                version = h.version;
                counted = h.counted;
                clear = h.clear;
                controls_are = h.controls_are;
                known = longer_controls r.t.log v.seen w.seen mine.seen fit.seen (h.controls_are ∙ sym h.known) ∙ h.known;
                fixed = h.fixed;
                outside = h.outside;
                turns = h.turns;
                once = once_more (λ (e : Ended E). e.number) v.admin_view.ended (record { number = caller_of w.role; entries = w.mine }) h.once
                    (λ i e at_i q. let a : r.t.live e.number ≡ true = ap r.t.live (q ∙ ap caller_of caller) ∙ own.2 in let b = (h.ended i e at_i).1 in absurd (cc));
              });
            })
            (λ j u not_id e not_other. let z = r.each j u e in record {
              seen = z.seen;
              promised = z.promised;
              noticed = z.noticed;
              role = stays_live r.t n other own.1 j not_other u u.role z.role (λ admin. one_admin M decides k s r id v at is j not_id u r.t (subst (FitsRole M (fixed_of M k) r.t j u) admin z.role));
            }) j u e ne);
        unmade = r.unmade;
      }

  -- the table at the start
  pub opens : (ws : List ℕ) (x : V) → length ws ≡ 517 → ((i : ℕ) → get_or ws i 0 ≡ 0) → x ≡ k.first.value → M.history x ≡ [] → M.decider x ≡ k.decider.value → M.promise (M.opening x) k.decider.value [] → M.keeps x
      → (0 < (decides k.decider.value).versions) × ((decides k.decider.value).versions ≤ 256) → k.seats ≤ 64 → k.quota ≤ 536870912 → k.most < 1048576
      → RuleHolds M decides k (opening ws (Some x ∷ []) (first_seat (fixed_of M k)))
  opens ws x wide empty first fresh decider promise keeps versions seats quota most =
      let f = fixed_of M k in
      let begins : M.promise (fixed_of M k).opening (fixed_of M k).decider [] = subst (λ (o : O). M.promise o k.decider.value []) (ap M.opening first) promise in
      record {
        t = record { log = []; made = 0; gone = 0; holder = λ n. 0; live = λ n. false; newest = 0; settled = 0; counted = 0; clear = 0; forced = 0; version = λ n. 0 };
        wide = wide;
        seats = (refl, omega arith, seats);
        first = refl;
        numbers = refl;
        tickets = record { drawn = 0; served = 0; owner = λ n. 0; next_is = empty 3; serving_is = empty 4; counted = refl; each = one_only (λ j t. FitsTicket 0 0 (λ n. 0) j t) Without tt };
        passes = record {
          entered = 0;
          gate_is = empty 0;
          here = (let a = empty 1 in let z : (get_or ws 1 0) ≡ 0 = a in omega arith);
          there = (let a = empty 2 in let z : (get_or ws 2 0) ≡ 0 = a in omega arith);
          budget = (let a : (k.seats - 0) * k.quota ≤ 64 * k.quota = mul-le-mul_right k.quota (omega arith) in omega arith);
          between = (omega arith, omega arith);
          cleared = omega arith;
          forced_is = omega arith;
          each = one_only (λ j (z : Rights). FitsPass 0 0 0 0 (λ n. 0) z.pass) (record { pass = Out; quota = 0 }) tt;
        };
        rows = λ i from to. inl (empty i);
        acknowledged = (refl, refl);
        noticed = inl refl;
        dated = record { within = (omega arith, most); bounds = versions.1; known = λ m le. versions.0; told = λ m lt. absurd (omega arith) };
        begins = begins;
        promised = begins;
        place = inl (x, refl, fresh, one_only (λ j (u : View E D O). has_turn u.ticket ≡ false) (first_seat (fixed_of M k)) refl, ap M.opening first, decider, keeps);
        each = one_only (Fits M (fixed_of M k) (record { log = []; made = 0; gone = 0; holder = λ n. 0; live = λ n. false; newest = 0; settled = 0; counted = 0; clear = 0; forced = 0; version = λ n. 0 })) (first_seat (fixed_of M k))
            (record { seen = ([], refl); promised = begins; noticed = omega arith; role = record { first = refl; made = refl; retired = refl; ended = λ i e there. absurd (some-ne-none e (sym there)); newest = refl; version = refl; counted = refl; clear = refl; controls_are = refl; known = refl; fixed = refl; outside = refl; turns = λ i turn there. absurd (some-ne-none turn (sym there)); once = λ i e there. absurd (some-ne-none e (sym there)) } });
        unmade = λ n le. refl;
      }

  -- the table at the end, once every caller is retired: the value is in the slot
  pub ends : (s : State (Option V) (View E D O)) (r : RuleHolds M decides k s) (id : ℕ) (v : View E D O) → get_elem? s.views id ≡ some v → v.role ≡ Admin → v.ticket ≡ Without → v.admin_view.made ≡ length v.admin_view.ended
      → (x : V) × (s.homes ≡ some (Some x) ∷ []) × Closes M v x
  ends s r id v at is idle all = ⊎_elim home out r.place
    where
      h : FitsRole M (fixed_of M k) r.t id v Admin
      h = admin_is M decides k s r id v at is

      no_callers : sum_by is_caller (map role_of s.views) ≡ 0
      no_callers = let n = r.numbers in let a = h.made in let b = h.retired in let c = all in omega arith

      nobody : (j : ℕ) (u : View E D O) → get_elem? s.views j ≡ some u → (role : Role) → u.role ≡ role → FitsRole M (fixed_of M k) r.t j u role → has_turn u.ticket ≡ false
      nobody j u there Spent e f = f.0
      nobody j u there (Caller n) e f = let le = sum_at is_caller (map role_of s.views) j (Caller n) (at_map role_of s.views j u there ∙ ap some e) in let z = no_callers in absurd (omega arith)
      nobody j u there Admin e f =
          let same : u ≡ v = same_place s.views id u v (subst (λ (i : ℕ). get_elem? s.views i ≡ some u) (f.first ∙ sym h.first) there) at in ap (λ (x : View E D O). has_turn x.ticket) same ∙ ap has_turn idle

      last : last_notice M.kind r.t.log ≡ (r.t.newest, r.t.version r.t.newest)
      last = ⊎_elim (λ e. e) (λ p. let o : has_turn p.0.ticket ≡ false = nobody 0 p.0 p.1 p.0.role refl (r.each 0 p.0 p.1).role in let t = p.2 in absurd (cc)) r.noticed

      same : (f : Fixed D O) → v.fixed ≡ Some f → fixed_of M k ≡ f
      same f e = same_fixed M decides k s r id v at (subst IsLive (sym is) tt) f e

      home : IsHome M (fixed_of M k) s.homes r.t.log s.views → (x : V) × (s.homes ≡ some (Some x) ∷ []) × Closes M v x
      home p = (
        p.0,
        p.1,
        record {
          value = λ f e. subst (λ (y : Fixed D O). IsOf M y p.0) (same f e) (p.4, p.5, subst (M.promise (fixed_of M k).opening (fixed_of M k).decider) (sym p.2) r.promised, p.6);
          controls_are = ap (controls M.kind) p.2 ∙ h.controls_are;
          turns = λ f e. subst (λ (y : Fixed D O). (i : ℕ) (turn : Item E) → get_elem? v.admin_view.turns i ≡ some turn → IsTurn M y turn) (same f e) h.turns;
          ended = λ i e there. let z = h.ended i e there in ((let a = z.0 in let b = h.made in omega arith), z.2 ∙ ap (of_caller M.kind e.number) (sym p.2));
          once = h.once;
          unmade = λ n le. ap (of_caller M.kind n) p.2 ∙ r.unmade n (let b = h.made in omega arith);
          seen = subst (λ (l : List E). StartsWith l v.seen) (sym p.2) (r.each id v at).seen;
          last = ap (last_notice M.kind) p.2 ∙ (last ∙ (λ i. (sym h.newest i, sym h.version i)));
        },
      )

      out : IsOut M (fixed_of M k) s.homes r.t.log s.views → (x : V) × (s.homes ≡ some (Some x) ∷ []) × Closes M v x
      out p = let o : has_turn p.1.ticket ≡ false = nobody p.0 p.1 p.3 p.1.role refl (r.each p.0 p.1 p.3).role in let t = p.4 in absurd (cc)
