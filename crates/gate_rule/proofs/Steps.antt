-- Each kind of step keeps the rule: what every kind needs, and the kinds that change one seat's ticket, rights and trace.
use Rattle.std.proofs.Common.{◌≡◌, ℕ, ◌+◌, ◌-◌, ◌*◌, ◌%◌, ◌<◌, ◌≤◌, true, false, List, [], ◌∷◌, ◌++◌, map, length, get_or, set, sym, refl, ap, ◌∙◌, subst, inl, inr, ⊎_elim, length-set, Option, Some, arith}
use Rattle.std.specs.List.{sum_by}
use mathlib.Core.Option.{some, none}
use mathlib.Core.Logic.{dite}
use native.Mathlib.Decide.{ℕ_discrete}
use lib.ListN.{get_elem?}
use Rattle.atomic_table.specs.Table.{State, Me, step, keeps, Allows}
use Rattle.atomic_table.proofs.Lists.{set_again, at_map}
use Rattle.access_vectors.specs.Decisions.{Decisions}
use Rattle.gate_rule.specs.declared.view.Role.{Role}
use Rattle.gate_rule.specs.declared.view.Role.TheVariants.{Spent, Caller, Admin}
use Rattle.gate_rule.specs.declared.view.Ticket.{Ticket}
use Rattle.gate_rule.specs.declared.view.Ticket.TheVariants.{Without, Drawn}
use Rattle.gate_rule.specs.declared.view.Pass.{Pass}
use Rattle.gate_rule.specs.declared.view.Pass.TheVariants.{Out, Inside}
use Rattle.gate_rule.specs.declared.view.Rights.{Rights}
use Rattle.gate_rule.specs.declared.view.Trace.{Trace}
use Rattle.gate_rule.specs.declared.view.Key.{Key}
use Rattle.gate_rule.specs.declared.view.Fixed.{Fixed}
use Rattle.gate_rule.specs.declared.view.View.{View}
use Rattle.gate_rule.specs.declared.journal.Terms.{Terms}
use Rattle.gate_rule.specs.Meaning.{Means}
use Rattle.gate_rule.specs.Tickets.{Tickets, has_turn}
use Rattle.gate_rule.specs.Passes.{Passes, FitsPass}
use Rattle.gate_rule.specs.Rows.{Rows, FitsRow, shows, key_row, IsKey}
use Rattle.gate_rule.specs.Views.{IsLive, is_caller, number_in, version_in, number_of, pass_version, one_more, leave_word, done, traced, saw_row}
use Rattle.gate_rule.specs.Rule.{RuleHolds, Truth, Fits, FitsRole, HasOf, role_of, ticket_of, rights_of, fixed_of}
use Rattle.gate_rule.specs.Told.{Stands, IsPassFor, enters, leaves, draws, sees_row, fills_row}
use Rattle.gate_rule.proofs.Places.{each_set, kept_at, map_kept, map_moved, word_else, word_here, word_same}
use Rattle.gate_rule.proofs.Serving as serving
use Rattle.gate_rule.proofs.Passing as passing
use Rattle.gate_rule.proofs.RowsKept as rowing

pub tickets_at : (ts : List Ticket) (a b a' b' : ℕ) → a' ≡ a → b' ≡ b → Tickets ts a b → Tickets ts a' b'
tickets_at ts a b a' b' p q r = subst (λ (x : ℕ). Tickets ts x b') (sym p) (subst (λ (x : ℕ). Tickets ts a x) (sym q) r)

pub passes_at : (rs : List Rights) (c a F cnt un clear : ℕ) (ver : ℕ → ℕ) (g e o g' e' o' : ℕ) → g' ≡ g → e' ≡ e → o' ≡ o → Passes rs c a F cnt un clear ver g e o → Passes rs c a F cnt un clear ver g' e' o'
passes_at rs c a F cnt un clear ver g e o g' e' o' p q s r =
    subst (λ (x : ℕ). Passes rs c a F cnt un clear ver x e' o') (sym p) (subst (λ (x : ℕ). Passes rs c a F cnt un clear ver g x o') (sym q) (subst (λ (x : ℕ). Passes rs c a F cnt un clear ver g e x) (sym s) r))

-- rows that a step on one of the first five words does not touch
pub rows_else : (d : Decisions) (c : ℕ) (ver : ℕ → ℕ) (ws : List ℕ) (i x : ℕ) → i < 5 → Rows d c ver ws → Rows d c ver (set ws i x)
rows_else d c ver ws i x low rows j le lt = subst (FitsRow d c ver) (sym (word_else ws i j x (λ e. omega arith))) (rows j le lt)

caller_live : (role : Role) (n : ℕ) → role ≡ Caller n → IsLive role
caller_live Spent n e = absurd (cc)
caller_live (Caller m) n e = tt
caller_live Admin n e = tt

module _ {V E D O : Type 0} (M : Means V E D O) (decides : D → Decisions) (k : Terms V D) where
  -- a seat with another ticket, rights, trace and list of keys served
  abbrev pub changed : View E D O → Ticket → Rights → Trace → List Key → View E D O
  changed v x y z q = record v { ticket = x; rights = y; trace = z; served = q }

  -- what a seat is stays, where a pass is none of the administrator's
  pub role_stays : (t : Truth E) (id : ℕ) (v : View E D O) (x : Ticket) (y : Rights) (z : Trace) (q : List Key) (role : Role) → IsLive role → (role ≡ Admin → y.pass ≡ Out)
      → FitsRole M (fixed_of M k) t id v role → FitsRole M (fixed_of M k) t id (changed v x y z q) role
  role_stays t id v x y z q Spent alive out h = absurd alive
  role_stays t id v x y z q (Caller n) alive out h = h
  role_stays t id v x y z q Admin alive out h = record { first = h.first; made = h.made; retired = h.retired; ended = h.ended; newest = h.newest; version = h.version; counted = h.counted; clear = h.clear; controls_are = h.controls_are; known = h.known; fixed = h.fixed; outside = out refl; turns = h.turns; once = h.once }

  -- a step that changes one seat's ticket, but not whether it has the turn, its rights, its trace and the keys served
  pub light : (s : State (Option V) (View E D O)) (r : RuleHolds M decides k s) (id : ℕ) (v : View E D O) → get_elem? s.views id ≡ some v
      → (x : Ticket) (y : Rights) (z : Trace) (q : List Key) (ws : List ℕ)
      → IsLive v.role → has_turn x ≡ has_turn v.ticket → (v.role ≡ Admin → y.pass ≡ Out) → length ws ≡ 517
      → Tickets (set (map ticket_of s.views) id x) (get_or ws 3 0) (get_or ws 4 0)
      → Passes (set (map rights_of s.views) id y) r.t.newest r.t.settled r.t.forced r.t.counted ((k.seats - r.t.made) * k.quota) r.t.clear r.t.version (get_or ws 0 0) (get_or ws 1 0) (get_or ws 2 0)
      → Rows (decides (fixed_of M k).decider) r.t.newest r.t.version ws
      → RuleHolds M decides k (record { words = ws; homes = s.homes; views = set s.views id (changed v x y z q) })
  light s r id v at x y z q ws alive turn out wide ts ps rows =
      let w = changed v x y z q in
      record {
        t = r.t;
        wide = wide;
        seats = (length-set s.views id w ∙ r.seats.0, r.seats.1, r.seats.2);
        first = subst (λ (l : List Role). get_elem? l 0 ≡ some Admin) (sym (map_kept role_of s.views id v w at refl)) r.first;
        numbers = subst (λ (l : List Role). sum_by is_caller l + r.t.gone ≡ r.t.made) (sym (map_kept role_of s.views id v w at refl)) r.numbers;
        tickets = subst (λ (l : List Ticket). Tickets l (get_or ws 3 0) (get_or ws 4 0)) (sym (map_moved ticket_of s.views id w x refl)) ts;
        passes = subst (λ (l : List Rights). Passes l r.t.newest r.t.settled r.t.forced r.t.counted ((k.seats - r.t.made) * k.quota) r.t.clear r.t.version (get_or ws 0 0) (get_or ws 1 0) (get_or ws 2 0)) (sym (map_moved rights_of s.views id w y refl)) ps;
        rows = rows;
        acknowledged = r.acknowledged;
        noticed = ⊎_elim (λ e. inl e) (λ h.
            let u = kept_at (λ (u : View E D O). (has_turn u.ticket ≡ true) × (u.role ≡ Admin)) s.views id v w at (λ (g : _). (turn ∙ g.0, g.1)) 0 h.0 h.1 (h.2, h.3) in
            inr (u.0, u.1, u.2.0, u.2.1, h.4, h.5)) r.noticed;
        dated = r.dated;
        begins = r.begins;
        promised = r.promised;
        place = ⊎_elim (λ h. inl (h.0, h.1, h.2, each_set (λ j (u : View E D O). has_turn u.ticket ≡ false) s.views id w (turn ∙ h.3 id v at) (λ j u other e. h.3 j u e), h.4, h.5, h.6))
            (λ h.
            let u = kept_at (λ (u : View E D O). (has_turn u.ticket ≡ true) × (u.seen ≡ r.t.log) × HasOf M (fixed_of M k) u) s.views id v w at (λ (g : _). (turn ∙ g.0, g.1, g.2)) h.0 h.1 h.3 (h.4, h.5, h.6) in
            inr (h.0, u.0, h.2, u.1, u.2.0, u.2.1, u.2.2)) r.place;
        each = each_set (Fits M (fixed_of M k) r.t) s.views id w
            (let f = r.each id v at in record { seen = f.seen; promised = f.promised; noticed = f.noticed; role = role_stays r.t id v x y z q v.role alive out f.role })
            (λ j u other e. r.each j u e);
        unmade = r.unmade;
      }

  -- a live seat names what the gate fixes
  pub names : (f : Fixed D O) (t : Truth E) (id : ℕ) (v : View E D O) (role : Role) → IsLive role → FitsRole M f t id v role → v.fixed ≡ Some f
  names f t id v Spent alive h = absurd alive
  names f t id v (Caller n) alive h = h.4
  names f t id v Admin alive h = h.fixed

  -- the administrator has no pass
  pub no_pass : (f : Fixed D O) (t : Truth E) (id : ℕ) (v : View E D O) (role : Role) → FitsRole M f t id v role → role ≡ Admin → v.rights.pass ≡ Out
  no_pass f t id v Spent h e = h.1
  no_pass f t id v (Caller n) h e = absurd (cc)
  no_pass f t id v Admin h e = h.outside

  pub same_fixed : (s : State (Option V) (View E D O)) (r : RuleHolds M decides k s) (id : ℕ) (v : View E D O) → get_elem? s.views id ≡ some v → IsLive v.role → (f : Fixed D O) → v.fixed ≡ Some f → fixed_of M k ≡ f
  same_fixed s r id v at alive f e = let h : v.fixed ≡ Some (fixed_of M k) = names (fixed_of M k) r.t id v v.role alive (r.each id v at).role in cc

  pub stood : (s : State (Option V) (View E D O)) (r : RuleHolds M decides k s) (id : ℕ) (v : View E D O) → get_elem? s.views id ≡ some v → IsLive v.role → (i : ℕ) → Stands M decides v i (get_or s.words i 0)
  stood s r id v at alive i f e = (k, s, id, r, same_fixed s r id v at alive f e, at, refl)

  -- the newest number is small, and so is its version
  pub small : (s : State (Option V) (View E D O)) (r : RuleHolds M decides k s) → (r.t.newest < 1048576) × (r.t.version r.t.newest < 256)
  small s r = let w = r.dated.within in let b = r.dated.bounds in let v = r.dated.known r.t.newest (omega arith) in (omega arith, omega arith)

  pub tickets_same : (s : State (Option V) (View E D O)) (r : RuleHolds M decides k s) (id : ℕ) (v : View E D O) → get_elem? s.views id ≡ some v → Tickets (set (map ticket_of s.views) id v.ticket) (get_or s.words 3 0) (get_or s.words 4 0)
  tickets_same s r id v at = subst (λ (l : List Ticket). Tickets l (get_or s.words 3 0) (get_or s.words 4 0)) (sym (set_again (map ticket_of s.views) id v.ticket (at_map ticket_of s.views id v at))) r.tickets

  pub passes_same : (s : State (Option V) (View E D O)) (r : RuleHolds M decides k s) (id : ℕ) (v : View E D O) → get_elem? s.views id ≡ some v
      → Passes (set (map rights_of s.views) id v.rights) r.t.newest r.t.settled r.t.forced r.t.counted ((k.seats - r.t.made) * k.quota) r.t.clear r.t.version (get_or s.words 0 0) (get_or s.words 1 0) (get_or s.words 2 0)
  passes_same s r id v at =
      subst (λ (l : List Rights). Passes l r.t.newest r.t.settled r.t.forced r.t.counted ((k.seats - r.t.made) * k.quota) r.t.clear r.t.version (get_or s.words 0 0) (get_or s.words 1 0) (get_or s.words 2 0))
      (sym (set_again (map rights_of s.views) id v.rights (at_map rights_of s.views id v at))) r.passes

  -- the seat's pass fits
  pub pass_fits : (s : State (Option V) (View E D O)) (r : RuleHolds M decides k s) (id : ℕ) (v : View E D O) → get_elem? s.views id ≡ some v → FitsPass r.t.newest r.t.settled r.t.forced r.t.clear r.t.version v.rights.pass
  pass_fits s r id v at = r.passes.each id v.rights (at_map rights_of s.views id v at)

  -- a load of any word
  pub loads : (s : State (Option V) (View E D O)) (r : RuleHolds M decides k s) (id : ℕ) (v : View E D O) → get_elem? s.views id ≡ some v → (z : Trace) (q : List Key) (i : ℕ) → IsLive v.role
      → RuleHolds M decides k (record { words = set s.words i (get_or s.words i 0); homes = s.homes; views = set s.views id (changed v v.ticket v.rights z q) })
  loads s r id v at z q i alive =
      subst (λ (ws : List ℕ). RuleHolds M decides k (record { words = ws; homes = s.homes; views = set s.views id (changed v v.ticket v.rights z q) })) (sym (word_same s.words i))
      (light s r id v at v.ticket v.rights z q s.words alive refl (no_pass (fixed_of M k) r.t id v v.role (r.each id v at).role) r.wide (tickets_same s r id v at) (passes_same s r id v at) r.rows)

  -- entering: one fetch_add of the gate word
  pub enter : (slots id : ℕ) (me : Me (Option V) (View E D O)) (n : ℕ) → me.0.role ≡ Caller n → me.0.rights.pass ≡ Out → 0 < me.0.rights.quota
      → Allows (RuleHolds M decides k) slots id me 0 (λ w. (w + 1) % 18446744073709551616) (enters M decides (step slots 0 1 0 none) me)
  enter slots id me n is out some_left s r deep at low =
      let v = me.0 in
      let alive = caller_live v.role n is in
      let g = get_or s.words 0 0 in
      let ws = set s.words 0 (one_more g) in
      let y : Rights = record { pass = Inside (number_in g) (version_in g); quota = v.rights.quota - 1 } in
      let b = small s r in
      let f = passing.fields (map rights_of s.views) r.t.newest r.t.settled r.t.forced r.t.counted ((k.seats - r.t.made) * k.quota) r.t.clear r.t.version g (get_or s.words 1 0) (get_or s.words 2 0) r.passes b.0 b.1 in (
        changed v v.ticket y (traced v.trace (done 0 g (one_more g))) v.served,
        keeps,
        tt,
        light s r id v at v.ticket y (traced v.trace (done 0 g (one_more g))) v.served ws alive refl (λ (e : v.role ≡ Admin). absurd (cc)) (length-set s.words 0 (one_more g) ∙ r.wide)
            (tickets_at (set (map ticket_of s.views) id v.ticket) (get_or s.words 3 0) (get_or s.words 4 0) (get_or ws 3 0) (get_or ws 4 0) (word_else s.words 0 3 (one_more g) (λ e. omega arith)) (word_else s.words 0 4 (one_more g) (λ e. omega arith)) (tickets_same s r id v at))
            (passes_at (set (map rights_of s.views) id y) r.t.newest r.t.settled r.t.forced r.t.counted ((k.seats - r.t.made) * k.quota) r.t.clear r.t.version (one_more g) (get_or s.words 1 0) (get_or s.words 2 0) (get_or ws 0 0) (get_or ws 1 0) (get_or ws 2 0)
            (word_here s.words 0 (one_more g) (let h = r.wide in omega arith)) (word_else s.words 0 1 (one_more g) (λ e. omega arith)) (word_else s.words 0 2 (one_more g) (λ e. omega arith))
            (passing.enters (map rights_of s.views) r.t.newest r.t.settled r.t.forced r.t.counted ((k.seats - r.t.made) * k.quota) r.t.clear r.t.version g (get_or s.words 1 0) (get_or s.words 2 0) r.passes b.0 b.1 id v.rights (at_map rights_of s.views id v at) out some_left))
            (rows_else (decides (fixed_of M k).decider) r.t.newest r.t.version s.words 0 (one_more g) (omega arith) r.rows),
        (
          refl,
          (let h = (r.each id v at).noticed in let e = f.0 in omega arith),
          (λ fx e. subst (λ (x : Fixed D O). IsPassFor decides x (number_in g) (version_in g)) (same_fixed s r id v at alive fx e)
              (subst (λ (x : ℕ). x < (decides (fixed_of M k).decider).versions) (sym f.1) (r.dated.known r.t.newest (omega arith)), subst (λ (x : ℕ). x ≤ k.most) (sym f.0) r.dated.within.0)),
          stood s r id v at alive 0,
        ),
      )

  -- leaving: one fetch_add of the counter of the pass's parity
  pub leave : (slots id : ℕ) (me : Me (Option V) (View E D O)) (n : ℕ) → me.0.role ≡ Caller n → (num ver : ℕ) → me.0.rights.pass ≡ Inside num ver
      → (i : ℕ) → i ≡ leave_word num → Allows (RuleHolds M decides k) slots id me i (λ w. (w + 1) % 18446744073709551616) (leaves M decides (step slots i 1 0 none) me)
  leave slots id me n is num ver inside i at_word s r deep at low =
      let v = me.0 in
      let alive = caller_live v.role n is in
      let g = get_or s.words i 0 in
      let ws = set s.words i (one_more g) in
      let y : Rights = record v.rights { pass = Out } in
      let same : leave_word (number_of v.rights.pass) ≡ i = ap (λ (p : Pass). leave_word (number_of p)) inside ∙ sym at_word in
      let z = traced v.trace (done (leave_word (number_of v.rights.pass)) g (one_more g)) in
      let rs = map rights_of s.views in
      let un = (k.seats - r.t.made) * k.quota in
      let here = at_map rights_of s.views id v at in
      let even : num % 2 ≡ 0 → Passes (set rs id y) r.t.newest r.t.settled r.t.forced r.t.counted un r.t.clear r.t.version (get_or ws 0 0) (get_or ws 1 0) (get_or ws 2 0) = λ e.
      let one : i ≡ 1 = omega arith in
      passes_at (set rs id y) r.t.newest r.t.settled r.t.forced r.t.counted un r.t.clear r.t.version (get_or s.words 0 0) (one_more (get_or s.words 1 0)) (get_or s.words 2 0) (get_or ws 0 0) (get_or ws 1 0) (get_or ws 2 0)
      (word_else s.words i 0 (one_more g) (λ e'. omega arith))
      (subst (λ (j : ℕ). get_or (set s.words j (one_more (get_or s.words j 0))) 1 0 ≡ one_more (get_or s.words 1 0)) (sym one) (word_here s.words 1 (one_more (get_or s.words 1 0)) (let h = r.wide in omega arith)))
      (word_else s.words i 2 (one_more g) (λ e'. omega arith))
      (passing.leaves_even rs r.t.newest r.t.settled r.t.forced r.t.counted un r.t.clear r.t.version (get_or s.words 0 0) (get_or s.words 1 0) (get_or s.words 2 0) r.passes id v.rights num ver here inside e) in
      let odd : num % 2 ≡ 1 → Passes (set rs id y) r.t.newest r.t.settled r.t.forced r.t.counted un r.t.clear r.t.version (get_or ws 0 0) (get_or ws 1 0) (get_or ws 2 0) = λ e.
      let two : i ≡ 2 = omega arith in
      passes_at (set rs id y) r.t.newest r.t.settled r.t.forced r.t.counted un r.t.clear r.t.version (get_or s.words 0 0) (get_or s.words 1 0) (one_more (get_or s.words 2 0)) (get_or ws 0 0) (get_or ws 1 0) (get_or ws 2 0)
      (word_else s.words i 0 (one_more g) (λ e'. omega arith)) (word_else s.words i 1 (one_more g) (λ e'. omega arith))
      (subst (λ (j : ℕ). get_or (set s.words j (one_more (get_or s.words j 0))) 2 0 ≡ one_more (get_or s.words 2 0)) (sym two) (word_here s.words 2 (one_more (get_or s.words 2 0)) (let h = r.wide in omega arith)))
      (passing.leaves_odd rs r.t.newest r.t.settled r.t.forced r.t.counted un r.t.clear r.t.version (get_or s.words 0 0) (get_or s.words 1 0) (get_or s.words 2 0) r.passes id v.rights num ver here inside e) in (
        changed v v.ticket y z v.served,
        keeps,
        tt,
        light s r id v at v.ticket y z v.served ws alive refl (λ (e : v.role ≡ Admin). refl) (length-set s.words i (one_more g) ∙ r.wide)
            (tickets_at (set (map ticket_of s.views) id v.ticket) (get_or s.words 3 0) (get_or s.words 4 0) (get_or ws 3 0) (get_or ws 4 0) (word_else s.words i 3 (one_more g) (λ e. omega arith)) (word_else s.words i 4 (one_more g) (λ e. omega arith)) (tickets_same s r id v at))
            (dite (ℕ_discrete (num % 2) 0) even (λ ne. odd (omega arith)))
            (rows_else (decides (fixed_of M k).decider) r.t.newest r.t.version s.words i (one_more g) (omega arith) r.rows),
        (refl, stood s r id v at alive i),
      )

  -- drawing a ticket: one fetch_add of the next ticket
  pub draw : (slots id : ℕ) (me : Me (Option V) (View E D O)) → IsLive me.0.role → me.0.ticket ≡ Without
      → Allows (RuleHolds M decides k) slots id me 3 (λ w. (w + 1) % 18446744073709551616) (draws M decides (step slots 3 1 0 none) me)
  draw slots id me alive idle s r deep at low =
      let v = me.0 in
      let g = get_or s.words 3 0 in
      let ws = set s.words 3 (one_more g) in
      let z = traced v.trace (done 3 g (one_more g)) in (
        changed v (Drawn g) v.rights z v.served,
        keeps,
        tt,
        light s r id v at (Drawn g) v.rights z v.served ws alive (ap has_turn (sym idle)) (no_pass (fixed_of M k) r.t id v v.role (r.each id v at).role) (length-set s.words 3 (one_more g) ∙ r.wide)
            (tickets_at (set (map ticket_of s.views) id (Drawn g)) (one_more g) (get_or s.words 4 0) (get_or ws 3 0) (get_or ws 4 0) (word_here s.words 3 (one_more g) (let h = r.wide in omega arith)) (word_else s.words 3 4 (one_more g) (λ e. omega arith))
            (serving.draws (map ticket_of s.views) g (get_or s.words 4 0) id r.tickets (at_map ticket_of s.views id v at ∙ ap some idle)))
            (passes_at (set (map rights_of s.views) id v.rights) r.t.newest r.t.settled r.t.forced r.t.counted ((k.seats - r.t.made) * k.quota) r.t.clear r.t.version (get_or s.words 0 0) (get_or s.words 1 0) (get_or s.words 2 0) (get_or ws 0 0) (get_or ws 1 0) (get_or ws 2 0)
            (word_else s.words 3 0 (one_more g) (λ e. omega arith)) (word_else s.words 3 1 (one_more g) (λ e. omega arith)) (word_else s.words 3 2 (one_more g) (λ e. omega arith)) (passes_same s r id v at))
            (rows_else (decides (fixed_of M k).decider) r.t.newest r.t.version s.words 3 (one_more g) (omega arith) r.rows),
        (refl, stood s r id v at alive 3),
      )

  -- looking at a row: one load of a key's word
  pub see_row : (slots id : ℕ) (me : Me (Option V) (View E D O)) (n : ℕ) → me.0.role ≡ Caller n → (num ver : ℕ) → me.0.rights.pass ≡ Inside num ver → (key : Key) → IsKey key
      → (i : ℕ) → 5 ≤ i → i < 517 → Allows (RuleHolds M decides k) slots id me i (λ w. w) (sees_row M decides key (step slots i 0 0 none) me)
  see_row slots id me n is num ver inside key is_key i from to s r deep at low =
      let v = me.0 in
      let alive = caller_live v.role n is in
      let g = get_or s.words i 0 in
      let fits = subst (FitsPass r.t.newest r.t.settled r.t.forced r.t.clear r.t.version) inside (pass_fits s r id v at) in
      let num_is : number_of v.rights.pass ≡ num = ap number_of inside in
      let ver_is : pass_version v.rights.pass ≡ ver = ap pass_version inside in
      let w = saw_row key v i g in (
        w,
        keeps,
        tt,
        loads s r id v at w.trace w.served i alive,
        (
          refl,
          (λ hit fx e.
              let hit' = subst (λ (x : ℕ). shows x key g ≡ true) num_is hit in
              let said = rowing.shown (decides (fixed_of M k).decider) r.t.newest r.t.version num key g (r.rows i from to) is_key hit' in
              let there : g % 65536 ≡ (decides (fixed_of M k).decider).vector (pass_version v.rights.pass) key.source key.target key.class =
              said ∙ ap (λ (x : ℕ). (decides (fixed_of M k).decider).vector x key.source key.target key.class) (sym fits.2 ∙ sym ver_is) in
              subst (λ (x : Fixed D O). g % 65536 ≡ (decides x.decider).vector (pass_version v.rights.pass) key.source key.target key.class) (same_fixed s r id v at alive fx e) there),
          stood s r id v at alive i,
        ),
      )

  -- filling a row: one swap of a key's word
  pub fill_row : (slots id : ℕ) (me : Me (Option V) (View E D O)) (n : ℕ) → me.0.role ≡ Caller n → (num ver : ℕ) → me.0.rights.pass ≡ Inside num ver → (key : Key) → IsKey key → (vec : ℕ) → vec < 65536
      → ((f : Fixed D O) → me.0.fixed ≡ Some f → vec ≡ (decides f.decider).vector ver key.source key.target key.class)
      → (i : ℕ) → 5 ≤ i → i < 517 → Allows (RuleHolds M decides k) slots id me i (λ _. key_row num key vec) (fills_row M decides key (step slots i (key_row num key vec) 0 none) me)
  fill_row slots id me n is num ver inside key is_key vec short right i from to s r deep at low =
      let v = me.0 in
      let alive = caller_live v.role n is in
      let g = get_or s.words i 0 in
      let row = key_row num key vec in
      let ws = set s.words i row in
      let z = traced v.trace (done i g row) in
      let q = v.served ++ key ∷ [] in
      let fits = subst (FitsPass r.t.newest r.t.settled r.t.forced r.t.clear r.t.version) inside (pass_fits s r id v at) in
      let d = decides (fixed_of M k).decider in
      let said : vec ≡ d.vector (r.t.version num) key.source key.target key.class =
      right (fixed_of M k) (names (fixed_of M k) r.t id v v.role alive (r.each id v at).role) ∙ ap (λ (x : ℕ). d.vector x key.source key.target key.class) fits.2 in
      let new_fits : FitsRow d r.t.newest r.t.version row = rowing.fits_key d r.t.newest r.t.version num key vec is_key fits.1 (small s r).0 short said in (
        changed v v.ticket v.rights z q,
        keeps,
        tt,
        light s r id v at v.ticket v.rights z q ws alive refl (no_pass (fixed_of M k) r.t id v v.role (r.each id v at).role) (length-set s.words i row ∙ r.wide)
            (tickets_at (set (map ticket_of s.views) id v.ticket) (get_or s.words 3 0) (get_or s.words 4 0) (get_or ws 3 0) (get_or ws 4 0) (word_else s.words i 3 row (λ e. omega arith)) (word_else s.words i 4 row (λ e. omega arith)) (tickets_same s r id v at))
            (passes_at (set (map rights_of s.views) id v.rights) r.t.newest r.t.settled r.t.forced r.t.counted ((k.seats - r.t.made) * k.quota) r.t.clear r.t.version (get_or s.words 0 0) (get_or s.words 1 0) (get_or s.words 2 0) (get_or ws 0 0) (get_or ws 1 0) (get_or ws 2 0)
            (word_else s.words i 0 row (λ e. omega arith)) (word_else s.words i 1 row (λ e. omega arith)) (word_else s.words i 2 row (λ e. omega arith)) (passes_same s r id v at))
            (λ j le lt. dite (ℕ_discrete j i)
            (λ e. subst (λ (x : ℕ). FitsRow d r.t.newest r.t.version (get_or ws x 0)) (sym e) (subst (FitsRow d r.t.newest r.t.version) (sym (word_here s.words i row (let h = r.wide in omega arith))) new_fits))
            (λ ne. subst (FitsRow d r.t.newest r.t.version) (sym (word_else s.words i j row ne)) (r.rows j le lt))),
        (refl, stood s r id v at alive i),
      )
