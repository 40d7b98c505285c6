-- The kind of step that passes the turn on keeps the rule, with no entry or with one.
use Rattle.std.proofs.Common.{◌≡◌, ◌≢◌, ℕ, ◌+◌, ◌-◌, ◌*◌, ◌%◌, ◌<◌, ◌≤◌, ◌⊎◌, Bool, true, false, cond, List, [], ◌∷◌, ◌++◌, map, get_or, set, sym, refl, ap, ◌∙◌, subst, inl, inr, ⊎_elim, length-set, ne_eqb, Option, Some, None, arith}
use Rattle.std.specs.List.{sum_by}
use mathlib.Core.Option.{some, none, some-injective}
use mathlib.Core.Option as maybe
use lib.ListN.{get_elem?}
use Rattle.atomic_table.specs.Table.{State, Me, step, gives, put_back, rest, Allows}
use Rattle.atomic_table.proofs.Lists.{at_map}
use Rattle.access_vectors.specs.Decisions.{Decisions}
use Rattle.gate_rule.specs.declared.view.Role.{Role}
use Rattle.gate_rule.specs.declared.view.Role.TheVariants.{Spent, Caller, Admin}
use Rattle.gate_rule.specs.declared.view.Ticket.{Ticket}
use Rattle.gate_rule.specs.declared.view.Ticket.TheVariants.{Without, Served}
use Rattle.gate_rule.specs.declared.view.Rights.{Rights}
use Rattle.gate_rule.specs.declared.view.Ended.{Ended}
use Rattle.gate_rule.specs.declared.view.Item.{Item}
use Rattle.gate_rule.specs.declared.view.Fixed.{Fixed}
use Rattle.gate_rule.specs.declared.view.View.{View}
use Rattle.gate_rule.specs.declared.journal.Terms.{Terms}
use Rattle.gate_rule.specs.History.{Kind, is_by, is_control, noticed, settled, forced_to, dated, of_caller, controls, last_notice, settled_in, forced_in, version_of, StartsWith}
use Rattle.gate_rule.specs.History.Kind.{Call, Notice, Ack}
use Rattle.gate_rule.specs.Meaning.{Means}
use Rattle.gate_rule.specs.Tickets.{Tickets, has_turn}
use Rattle.gate_rule.specs.Passes.{Passes}
use Rattle.gate_rule.specs.Views.{IsLive, is_caller, one_more, gave, mine_in, item_of, entries_of, entry_added}
use Rattle.gate_rule.specs.Rule.{RuleHolds, Truth, Fits, FitsRole, FitsEnded, IsOf, HasOf, IsTurn, role_of, ticket_of, rights_of, fixed_of}
use Rattle.gate_rule.specs.Told.{IsOwn, Extends}
use Rattle.gate_rule.specs.Told as told
use Rattle.gate_rule.proofs.Places.{each_set, each_more, map_kept, map_moved, word_else, word_here, same_place}
use Rattle.gate_rule.proofs.Serving as serving
use Rattle.gate_rule.proofs.Passing as passing
use Rattle.gate_rule.proofs.Histories.{begins_here, begins_more, nothing_added, one_added, entries_more, entries_same, of_caller_other, controls_own, controls_other, notice_more, settled_more, forced_more, version_more}
use Rattle.gate_rule.proofs.Steps.{tickets_at, passes_at, rows_else, names, stood}
use Rattle.gate_rule.proofs.Turns.{noticed_by_all, has_seen}

-- a caller's number that is not that of this role
abbrev pub IsOther : Role → ℕ → Type 0
IsOther Spent n = Unit {0}
IsOther (Caller m) n = n ≢ m
IsOther Admin n = Unit {0}

module _ {V E D O : Type 0} (M : Means V E D O) (decides : D → Decisions) (k : Terms V D) where
  -- what the history given back has to do with the one that counted
  pub record Grown (t : Truth E) (role : Role) (log : List E) : Type 0 where
    pub begins : (a : List E) → StartsWith t.log a → StartsWith log a
    pub last : last_notice M.kind log ≡ (t.newest, t.version t.newest)
    pub numbers : ((settled_in M.kind log ≡ t.settled) × (forced_in M.kind log ≡ t.forced))
        ⊎ ((settled_in M.kind log ≡ t.newest) × (((forced_in M.kind log ≡ t.forced) × (t.clear ≡ t.newest)) ⊎ (forced_in M.kind log ≡ t.newest)))
    pub told : (m : ℕ) → m < t.newest → version_of M.kind m log ≡ version_of M.kind m t.log
    pub others : (n : ℕ) → IsOther role n → of_caller M.kind n log ≡ of_caller M.kind n t.log

  module _ (s : State (Option V) (View E D O)) (r : RuleHolds M decides k s) (id : ℕ) (v : View E D O) (at : get_elem? s.views id ≡ some v) (w : ℕ) (turn : v.ticket ≡ Served w) where
    -- another seat's number is another number
    other_number : (role : Role) → FitsRole M (fixed_of M k) r.t id v role → (n j : ℕ) → j ≢ id → r.t.holder n ≡ j → IsOther role n
    other_number Spent h n j ne own = tt
    other_number (Caller m) h n j ne own = λ e. ne (sym own ∙ (ap r.t.holder e ∙ h.1))
    other_number Admin h n j ne own = tt

    gone_number : (role : Role) → FitsRole M (fixed_of M k) r.t id v role → (n : ℕ) → r.t.live n ≡ false → IsOther role n
    gone_number Spent h n gone = tt
    gone_number (Caller m) h n gone = λ e. let a : r.t.live n ≡ true = ap r.t.live e ∙ h.2 in absurd (cc)
    gone_number Admin h n gone = tt

    new_number : (role : Role) → FitsRole M (fixed_of M k) r.t id v role → (n : ℕ) → r.t.made ≤ n → IsOther role n
    new_number Spent h n le = tt
    new_number (Caller m) h n le = λ e. let lt = h.0 in omega arith
    new_number Admin h n le = tt

    -- the turn is passed on, with a history that grew so
    passed_on : (y : V) → Grown r.t v.role (M.history y) → IsLive v.role
        → ((role : Role) → v.role ≡ role → (role ≡ Admin → controls M.kind (M.history y) ≡ entries_of (v.admin_view.turns ++ item_of M v y ∷ [])) × ((role ≡ Admin → ⊥) → controls M.kind (M.history y) ≡ controls M.kind r.t.log))
        → IsOf M (fixed_of M k) y
        → RuleHolds M decides k (record { words = set s.words 4 (one_more (get_or s.words 4 0)); homes = some (Some y) ∷ []; views = set s.views id (gave M y v (get_or s.words 4 0)) })
    passed_on y grown alive control is_of =
        let g = get_or s.words 4 0 in
        let ws = set s.words 4 (one_more g) in
        let v' = gave M y v g in
        let log = M.history y in
        let rs = map rights_of s.views in
        let un = (k.seats - r.t.made) * k.quota in
        let at_ticket : get_elem? (map ticket_of s.views) id ≡ some (Served w) = at_map ticket_of s.views id v at ∙ ap some turn in
        let t' : Truth E = record r.t { log = log; settled = settled_in M.kind log; forced = forced_in M.kind log } in
        record {
          t = t';
          wide = length-set s.words 4 (one_more g) ∙ r.wide;
          seats = (length-set s.views id v' ∙ r.seats.0, r.seats.1, r.seats.2);
          first = subst (λ (l : List Role). get_elem? l 0 ≡ some Admin) (sym (map_kept role_of s.views id v v' at refl)) r.first;
          numbers = subst (λ (l : List Role). sum_by is_caller l + r.t.gone ≡ r.t.made) (sym (map_kept role_of s.views id v v' at refl)) r.numbers;
          tickets = subst (λ (l : List Ticket). Tickets l (get_or ws 3 0) (get_or ws 4 0)) (sym (map_moved ticket_of s.views id v' Without refl))
              (tickets_at (set (map ticket_of s.views) id Without) (get_or s.words 3 0) (one_more g) (get_or ws 3 0) (get_or ws 4 0) (word_else s.words 4 3 (one_more g) (λ e. omega arith)) (word_here s.words 4 (one_more g) (let h = r.wide in omega arith))
              (serving.passes (map ticket_of s.views) (get_or s.words 3 0) g id w r.tickets at_ticket));
          passes = subst (λ (l : List Rights). Passes l r.t.newest (settled_in M.kind log) (forced_in M.kind log) r.t.counted un r.t.clear r.t.version (get_or ws 0 0) (get_or ws 1 0) (get_or ws 2 0)) (sym (map_kept rights_of s.views id v v' at refl))
              (passes_at rs r.t.newest (settled_in M.kind log) (forced_in M.kind log) r.t.counted un r.t.clear r.t.version (get_or s.words 0 0) (get_or s.words 1 0) (get_or s.words 2 0) (get_or ws 0 0) (get_or ws 1 0) (get_or ws 2 0)
              (word_else s.words 4 0 (one_more g) (λ e. omega arith)) (word_else s.words 4 1 (one_more g) (λ e. omega arith)) (word_else s.words 4 2 (one_more g) (λ e. omega arith))
              (⊎_elim
              (λ h. subst (λ (a : ℕ). Passes rs r.t.newest a (forced_in M.kind log) r.t.counted un r.t.clear r.t.version (get_or s.words 0 0) (get_or s.words 1 0) (get_or s.words 2 0)) (sym h.0)
              (subst (λ (f : ℕ). Passes rs r.t.newest r.t.settled f r.t.counted un r.t.clear r.t.version (get_or s.words 0 0) (get_or s.words 1 0) (get_or s.words 2 0)) (sym h.1) r.passes))
              (λ h. subst (λ (a : ℕ). Passes rs r.t.newest a (forced_in M.kind log) r.t.counted un r.t.clear r.t.version (get_or s.words 0 0) (get_or s.words 1 0) (get_or s.words 2 0)) (sym h.0)
              (passing.settles rs r.t.newest r.t.settled r.t.forced r.t.counted un r.t.clear r.t.version (get_or s.words 0 0) (get_or s.words 1 0) (get_or s.words 2 0) r.passes (forced_in M.kind log) h.1))
              grown.numbers));
          rows = rows_else (decides (fixed_of M k).decider) r.t.newest r.t.version s.words 4 (one_more g) (omega arith) r.rows;
          acknowledged = (refl, refl);
          noticed = inl grown.last;
          dated = record { within = r.dated.within; bounds = r.dated.bounds; known = r.dated.known; told = λ m lt. r.dated.told m lt ∙ sym (grown.told m lt) };
          begins = r.begins;
          promised = is_of.2;
          place = inl (
            y,
            refl,
            refl,
            each_set (λ j (u : View E D O). has_turn u.ticket ≡ false) s.views id v' refl
                (λ j u other e. serving.passed (map ticket_of s.views) (get_or s.words 3 0) g id w j u.ticket r.tickets at_ticket other (at_map ticket_of s.views j u e)),
            is_of.0,
            is_of.1,
            is_of.3,
          );
          each = each_set (Fits M (fixed_of M k) t') s.views id v'
              (record {
                seen = begins_here log;
                promised = is_of.2;
                noticed = (let e : (last_notice M.kind log).0 ≡ r.t.newest = ap (λ (p : ℕ × ℕ). p.0) grown.last in omega arith);
                role = own v.role refl (r.each id v at).role;
              })
              (λ j u other e. let f = r.each j u e in record {
                seen = grown.begins u.seen f.seen;
                promised = f.promised;
                noticed = f.noticed;
                role = others j other u u.role f.role;
              });
          unmade = λ n le. grown.others n (new_number v.role (r.each id v at).role n le) ∙ r.unmade n le;
        }
      where
        ended : (e : Ended E) → FitsEnded M r.t e → FitsEnded M (record r.t { log = M.history y; settled = settled_in M.kind (M.history y); forced = forced_in M.kind (M.history y) }) e
        ended e h = (h.0, h.1, h.2 ∙ sym (grown.others e.number (gone_number v.role (r.each id v at).role e.number h.1)))

        is_turn : HasOf M (fixed_of M k) v → IsTurn M (fixed_of M k) (item_of M v y)
        is_turn h = (h.0, y, h.1, is_of, ap (λ (l : List E). entry_added l (M.history y)) (sym h.2), h.4, refl)

        own : (role : Role) → v.role ≡ role → FitsRole M (fixed_of M k) r.t id v role → FitsRole M (fixed_of M k) (record r.t { log = M.history y; settled = settled_in M.kind (M.history y); forced = forced_in M.kind (M.history y) }) id (gave M y v (get_or s.words 4 0)) role
        own Spent e h = absurd (subst IsLive e alive)
        own (Caller n) e h = (h.0, h.1, h.2, ap (λ (x : Role). mine_in M x v.mine (M.history y)) e, h.4)
        own Admin e h =
            let c = (control Admin e).0 refl in
            record { first = h.first; made = h.made; retired = h.retired; ended = λ i x there. ended x (h.ended i x there); newest = h.newest; version = h.version; counted = h.counted; clear = h.clear; controls_are = c; known = c; fixed = h.fixed; outside = h.outside; turns = each_more (λ i (turn : Item E). IsTurn M (fixed_of M k) turn) v.admin_view.turns (item_of M v y) (is_turn (has_seen M decides k s r id v w at turn).2) h.turns; once = h.once }

        not_admin : (j : ℕ) → j ≢ id → (u : View E D O) → FitsRole M (fixed_of M k) r.t j u Admin → v.role ≡ Admin → ⊥
        not_admin j other u h e = other (h.first ∙ sym (subst (FitsRole M (fixed_of M k) r.t id v) e (r.each id v at).role).first)

        others : (j : ℕ) → j ≢ id → (u : View E D O) → (role : Role) → FitsRole M (fixed_of M k) r.t j u role → FitsRole M (fixed_of M k) (record r.t { log = M.history y; settled = settled_in M.kind (M.history y); forced = forced_in M.kind (M.history y) }) j u role
        others j other u Spent h = h
        others j other u (Caller n) h = (h.0, h.1, h.2, h.3 ∙ sym (grown.others n (other_number v.role (r.each id v at).role n j other h.1)), h.4)
        others j other u Admin h =
            record { first = h.first; made = h.made; retired = h.retired; ended = λ i x there. ended x (h.ended i x there); newest = h.newest; version = h.version; counted = h.counted; clear = h.clear; controls_are = (control v.role refl).1 (not_admin j other u h) ∙ h.controls_are; known = h.known; fixed = h.fixed; outside = h.outside; turns = h.turns; once = h.once }

    -- a caller has the turn, so the administrator has not
    caller_last : (n : ℕ) → v.role ≡ Caller n → last_notice M.kind r.t.log ≡ (r.t.newest, r.t.version r.t.newest)
    caller_last n is = noticed_by_all M decides k s r (λ u there has admin.
        let z : 0 ≡ id = serving.alone (map ticket_of s.views) (get_or s.words 3 0) (get_or s.words 4 0) id 0 w u.ticket r.tickets (at_map ticket_of s.views id v at ∙ ap some turn) (at_map ticket_of s.views 0 u there) has in
        let e : u ≡ v = same_place s.views id u v (subst (λ (j : ℕ). get_elem? s.views j ≡ some u) z there) at in
        let a : v.role ≡ Admin = subst (λ (x : View E D O). x.role ≡ Admin) e admin in absurd (cc))

    grown_same : (role : Role) (log : List E) → log ≡ r.t.log → last_notice M.kind log ≡ (r.t.newest, r.t.version r.t.newest) → Grown r.t role log
    grown_same role log same last = record {
      begins = λ a h. subst (λ (l : List E). StartsWith l a) (sym same) h;
      last = last;
      numbers = inl (ap (settled_in M.kind) same ∙ r.acknowledged.0, ap (forced_in M.kind) same ∙ r.acknowledged.1);
      told = λ m lt. ap (version_of M.kind m) same;
      others = λ n o. ap (of_caller M.kind n) same;
    }

    grown_call : (log : List E) (e : E) → log ≡ r.t.log ++ e ∷ [] → (n mark number : ℕ) → M.kind e ≡ Call n mark number → last_notice M.kind r.t.log ≡ (r.t.newest, r.t.version r.t.newest) → Grown r.t (Caller n) log
    grown_call log e more n mark number is last = record {
      begins = λ a h. subst (λ (l : List E). StartsWith l a) (sym more) (begins_more r.t.log a e h);
      last = ap (last_notice M.kind) more ∙ (notice_more M.kind r.t.log e ∙ (ap (noticed (last_notice M.kind r.t.log)) is ∙ last));
      numbers = inl (
        ap (settled_in M.kind) more ∙ (settled_more M.kind r.t.log e ∙ (ap (settled (settled_in M.kind r.t.log)) is ∙ r.acknowledged.0)),
        ap (forced_in M.kind) more ∙ (forced_more M.kind r.t.log e ∙ (ap (forced_to (forced_in M.kind r.t.log)) is ∙ r.acknowledged.1)),
      );
      told = λ m lt. ap (version_of M.kind m) more ∙ (version_more M.kind m r.t.log e ∙ ap (dated m (version_of M.kind m r.t.log)) is);
      others = λ x o. ap (of_caller M.kind x) more ∙ of_caller_other M.kind x r.t.log e (ap (is_by x) is ∙ ne_eqb n x (λ z. o (sym z)));
    }

    -- the facts of a notice or an acknowledgement that do not depend on which it is
    grown_control : (log : List E) (e : E) → log ≡ r.t.log ++ e ∷ [] → ((x : ℕ) → is_by x (M.kind e) ≡ false) → last_notice M.kind log ≡ (r.t.newest, r.t.version r.t.newest)
        → ((settled_in M.kind log ≡ r.t.settled) × (forced_in M.kind log ≡ r.t.forced)) ⊎ ((settled_in M.kind log ≡ r.t.newest) × (((forced_in M.kind log ≡ r.t.forced) × (r.t.clear ≡ r.t.newest)) ⊎ (forced_in M.kind log ≡ r.t.newest)))
        → ((m : ℕ) → m < r.t.newest → dated m (version_of M.kind m r.t.log) (M.kind e) ≡ version_of M.kind m r.t.log) → Grown r.t Admin log
    grown_control log e more nobody last numbers same = record {
      begins = λ a h. subst (λ (l : List E). StartsWith l a) (sym more) (begins_more r.t.log a e h);
      last = last;
      numbers = numbers;
      told = λ m lt. ap (version_of M.kind m) more ∙ (version_more M.kind m r.t.log e ∙ same m lt);
      others = λ x o. ap (of_caller M.kind x) more ∙ of_caller_other M.kind x r.t.log e (nobody x);
    }

    own_control : (log : List E) (e : E) → log ≡ r.t.log ++ e ∷ [] → last_notice M.kind log ≡ (r.t.newest, r.t.version r.t.newest) → v.admin_view.newest ≡ r.t.newest → v.admin_view.version ≡ r.t.version r.t.newest → v.admin_view.clear ≡ r.t.clear
        → IsOwn M.kind v Admin e → Grown r.t Admin log × (is_control (M.kind e) ≡ true)
    own_control log e more last newest version clear own = ⊎_elim notice (⊎_elim forced plain) own
      where
        settled_at : (K : Kind) → M.kind e ≡ K → settled_in M.kind log ≡ settled (settled_in M.kind r.t.log) K
        settled_at K is = ap (settled_in M.kind) more ∙ (settled_more M.kind r.t.log e ∙ ap (settled (settled_in M.kind r.t.log)) is)

        forced_at : (K : Kind) → M.kind e ≡ K → forced_in M.kind log ≡ forced_to (forced_in M.kind r.t.log) K
        forced_at K is = ap (forced_in M.kind) more ∙ (forced_more M.kind r.t.log e ∙ ap (forced_to (forced_in M.kind r.t.log)) is)

        notice : M.kind e ≡ Notice v.admin_view.newest v.admin_view.version → Grown r.t Admin log × (is_control (M.kind e) ≡ true)
        notice is = (
          grown_control log e more (λ x. ap (is_by x) is) last (inl (settled_at (Notice v.admin_view.newest v.admin_view.version) is ∙ r.acknowledged.0, forced_at (Notice v.admin_view.newest v.admin_view.version) is ∙ r.acknowledged.1))
              (λ m lt. ap (dated m (version_of M.kind m r.t.log)) is ∙ ap (λ (b : Bool). cond b v.admin_view.version (version_of M.kind m r.t.log)) (ne_eqb v.admin_view.newest m (λ z. omega arith))),
          ap is_control is,
        )

        forced : M.kind e ≡ Ack v.admin_view.newest true → Grown r.t Admin log × (is_control (M.kind e) ≡ true)
        forced is = (
          grown_control log e more (λ x. ap (is_by x) is) last
              (inr (settled_at (Ack v.admin_view.newest true) is ∙ newest, inr (let f = forced_at (Ack v.admin_view.newest true) is in let a = r.acknowledged.1 in let b = r.passes.forced_is in let c = r.passes.between in omega arith)))
              (λ m lt. ap (dated m (version_of M.kind m r.t.log)) is),
          ap is_control is,
        )

        plain : (M.kind e ≡ Ack v.admin_view.newest false) × (v.admin_view.clear ≡ v.admin_view.newest) → Grown r.t Admin log × (is_control (M.kind e) ≡ true)
        plain p = (
          grown_control log e more (λ x. ap (is_by x) p.0) last
              (inr (settled_at (Ack v.admin_view.newest false) p.0 ∙ newest, inl (forced_at (Ack v.admin_view.newest false) p.0 ∙ r.acknowledged.1, sym clear ∙ (p.1 ∙ newest))))
              (λ m lt. ap (dated m (version_of M.kind m r.t.log)) p.0),
          ap is_control p.0,
        )

    -- the rule after the turn is passed on
    given : (y : V) → Extends M.kind v (M.history y) → IsLive v.role → IsOf M (fixed_of M k) y
        → RuleHolds M decides k (record { words = set s.words 4 (one_more (get_or s.words 4 0)); homes = some (Some y) ∷ []; views = set s.views id (gave M y v (get_or s.words 4 0)) })
    given y ext alive is_of = by_role v.role refl
      where
        seen : v.seen ≡ r.t.log
        seen = (has_seen M decides k s r id v w at turn).1

        by_role : (role : Role) → v.role ≡ role → RuleHolds M decides k (record { words = set s.words 4 (one_more (get_or s.words 4 0)); homes = some (Some y) ∷ []; views = set s.views id (gave M y v (get_or s.words 4 0)) })
        by_role Spent is = absurd (subst IsLive is alive)
        by_role (Caller n) is = ⊎_elim
            (λ same.
            let e : M.history y ≡ r.t.log = same ∙ seen in
            passed_on y (grown_same v.role (M.history y) e (ap (last_notice M.kind) e ∙ caller_last n is)) alive
            (λ role z. ((λ (a : role ≡ Admin). absurd (cc)), (λ _. ap (controls M.kind) e))) is_of)
            (λ added.
            let e = added.0 in
            let more : M.history y ≡ r.t.log ++ e ∷ [] = added.1 ∙ ap (λ (l : List E). l ++ e ∷ []) seen in
            let own = subst (λ (x : Role). IsOwn M.kind v x e) is added.2 in
            let call = own.4 in
            passed_on y (subst (λ (x : Role). Grown r.t x (M.history y)) (sym is) (grown_call (M.history y) e more n own.0 own.1 call (caller_last n is))) alive
            (λ role z. ((λ (a : role ≡ Admin). absurd (cc)), (λ _. ap (controls M.kind) more ∙ controls_other M.kind r.t.log e (ap is_control call)))) is_of)
            ext.0
        by_role Admin is =
            let h = subst (FitsRole M (fixed_of M k) r.t id v) is (r.each id v at).role in
            let last : last_notice M.kind (M.history y) ≡ (r.t.newest, r.t.version r.t.newest) = ext.1 is ∙ (λ i. (h.newest i, h.version i)) in
            ⊎_elim
            (λ same.
            let e : M.history y ≡ r.t.log = same ∙ seen in
            passed_on y (grown_same v.role (M.history y) e last) alive
            (λ role z. ((λ _. ap (controls M.kind) e ∙ (h.controls_are ∙ sym (entries_same v.admin_view.turns (item_of M v y) (ap (entry_added v.seen) same ∙ nothing_added v.seen)))), (λ no. absurd (no (sym z ∙ is))))) is_of)
            (λ added.
            let e = added.0 in
            let more : M.history y ≡ r.t.log ++ e ∷ [] = added.1 ∙ ap (λ (l : List E). l ++ e ∷ []) seen in
            let own = subst (λ (x : Role). IsOwn M.kind v x e) is added.2 in
            let g = own_control (M.history y) e more last h.newest h.version h.clear own in
            passed_on y (subst (λ (x : Role). Grown r.t x (M.history y)) (sym is) g.0) alive
            (λ role z. (
              (λ _. ap (controls M.kind) more ∙ (controls_own M.kind r.t.log e g.1 ∙ (ap (λ (l : List E). l ++ e ∷ []) h.controls_are
                  ∙ sym (entries_more v.admin_view.turns (item_of M v y) e (ap (entry_added v.seen) added.1 ∙ one_added v.seen e))))),
              (λ no. absurd (no (sym z ∙ is))),
            )) is_of)
            ext.0

  -- the value in hand, or another one where none is
  abbrev in_hand : List (ℕ × Option V) → V → V
  in_hand [] y = y
  in_hand (x ∷ xs) y = value x.1
    where
      value : Option V → V
      value None = y
      value (Some z) = z

  -- passing the turn on: one fetch_add of word 4
  pub give : (slots id : ℕ) (me : Me (Option V) (View E D O)) (w : ℕ) (y : V) → IsLive me.0.role → me.0.ticket ≡ Served w → me.1 ≡ (0, Some y) ∷ [] → Extends M.kind me.0 (M.history y)
      → ((f : Fixed D O) → me.0.fixed ≡ Some f → IsOf M f y) → Allows (RuleHolds M decides k) slots id me 4 (λ n. (n + 1) % 18446744073709551616) (told.gives M decides (step slots 4 1 0 none) me)
  give slots id me w y alive turn carry ext is_of s r deep at low =
      let g = get_or s.words 4 0 in
      let v = me.0 in
      let out = (has_seen M decides k s r id v w at turn).0 in
      let homes : put_back s.homes me.1 ≡ some (Some y) ∷ [] = ap (put_back s.homes) carry ∙ ap (λ (hs : List (maybe.Option (Option V))). set hs 0 (some (Some y))) out in (
        gave M y v g,
        gives,
        tt,
        subst (λ (hs : List (maybe.Option (Option V))). RuleHolds M decides k (record { words = set s.words 4 (one_more g); homes = hs; views = set s.views id (gave M y v g) })) (sym homes)
            (given s r id v at w turn y ext alive (is_of (fixed_of M k) (names M decides k (fixed_of M k) r.t id v v.role alive (r.each id v at).role))),
        (
          (λ y' e.
              let same : y ≡ y' = ap (λ (l : List (ℕ × Option V)). in_hand l y) (sym carry ∙ e) in
              (λ i. (gave M (same i) v g, ap rest carry i))),
          stood M decides k s r id v at alive 4,
        ),
      )
