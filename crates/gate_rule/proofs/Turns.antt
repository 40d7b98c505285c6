-- The kinds of step that take the turn and pass it on keep the rule.
use Rattle.std.proofs.Common.{◌≡◌, ℕ, ◌+◌, ◌-◌, ◌*◌, ◌<◌, true, false, List, [], ◌∷◌, map, length, get_or, set, sym, refl, ap, ◌∙◌, subst, inl, inr, ⊎_elim, length-set, Option, Some, arith}
use Rattle.std.specs.List.{sum_by}
use mathlib.Core.Option.{some, none, some-injective}
use mathlib.Core.Option as maybe
use mathlib.Core.Logic.{dite}
use native.Mathlib.Decide.{ℕ_discrete}
use lib.ListN.{get_elem?, length-map}
use Rattle.atomic_table.specs.Table.{State, Me, Act, step, keeps, takes, stepped, carried_after, Valid, Allows}
use Rattle.atomic_table.proofs.Lists.{set_here, at_map}
use Rattle.access_vectors.specs.Decisions.{Decisions}
use Rattle.gate_rule.specs.declared.view.Role.{Role}
use Rattle.gate_rule.specs.declared.view.Role.TheVariants.{Spent, Caller, Admin}
use Rattle.gate_rule.specs.declared.view.Ticket.{Ticket}
use Rattle.gate_rule.specs.declared.view.Ticket.TheVariants.{Drawn, Served}
use Rattle.gate_rule.specs.declared.view.Pass.{Pass}
use Rattle.gate_rule.specs.declared.view.Pass.TheVariants.{Out, Inside}
use Rattle.gate_rule.specs.declared.view.Rights.{Rights}
use Rattle.gate_rule.specs.declared.view.Fixed.{Fixed}
use Rattle.gate_rule.specs.declared.view.View.{View}
use Rattle.gate_rule.specs.declared.journal.Terms.{Terms}
use Rattle.gate_rule.specs.History.{controls, last_notice, version_of, StartsWith}
use Rattle.gate_rule.specs.Meaning.{Means}
use Rattle.gate_rule.specs.Tickets.{Tickets, has_turn, word_of}
use Rattle.gate_rule.specs.Passes.{Passes, FitsPass}
use Rattle.gate_rule.specs.Rows.{Rows}
use Rattle.gate_rule.specs.Views.{IsLive, is_caller, done, traced, missed, took}
use Rattle.gate_rule.specs.Rule.{RuleHolds, Fits, FitsRole, IsHome, IsOf, HasOf, role_of, ticket_of, rights_of, fixed_of}
use Rattle.gate_rule.specs.Told.{IsAllowed, Learns, polls}
use Rattle.gate_rule.proofs.Places.{each_set, map_kept, map_moved, within, word_same, same_place}
use Rattle.gate_rule.proofs.Serving as serving
use Rattle.gate_rule.proofs.Histories.{begins_here, version_last}
use Rattle.gate_rule.proofs.Steps.{loads, same_fixed, stood, pass_fits}

module _ {V E D O : Type 0} (M : Means V E D O) (decides : D → Decisions) (k : Terms V D) where
  module _ (s : State (Option V) (View E D O)) (r : RuleHolds M decides k s) where
    pub few_views : length (map ticket_of s.views) < 18446744073709551616
    few_views = let a = r.seats.0 in let b = r.seats.1 in let c = r.seats.2 in let l = length-map s.views ticket_of in omega arith

    -- where no seat has the turn, or only a caller's has, the last notice is that of the newest number
    pub noticed_by_all : ((v : View E D O) → get_elem? s.views 0 ≡ some v → has_turn v.ticket ≡ true → v.role ≡ Admin → ⊥) → last_notice M.kind r.t.log ≡ (r.t.newest, r.t.version r.t.newest)
    noticed_by_all none_has = ⊎_elim (λ e. e) (λ h. absurd (none_has h.0 h.1 h.2 h.3)) r.noticed

    -- a pass that fits is allowed by the history
    pub allowed : last_notice M.kind r.t.log ≡ (r.t.newest, r.t.version r.t.newest) → (p : Pass) → FitsPass r.t.newest r.t.settled r.t.forced r.t.clear r.t.version p → IsAllowed M.kind p r.t.log
    allowed last Out h = tt
    allowed last (Inside n ver) h =
        let top : (last_notice M.kind r.t.log).0 ≡ r.t.newest = ap (λ (p : ℕ × ℕ). p.0) last in (
          ⊎_elim (λ e. inl (e ∙ sym r.acknowledged.0)) (⊎_elim (λ e. inr (inl (e ∙ sym top))) (λ lt. inr (inr (subst (λ (x : ℕ). n < x) (sym r.acknowledged.1) lt)))) h.0,
          h.2 ∙ dite (ℕ_discrete n r.t.newest)
              (λ e. ap r.t.version e ∙ (sym (version_last M.kind r.t.log r.t.newest (r.t.version r.t.newest) last) ∙ ap (λ (m : ℕ). version_of M.kind m r.t.log) (sym e)))
              (λ ne. let le = h.1 in r.dated.told n (omega arith)),
        )

    pub learns : last_notice M.kind r.t.log ≡ (r.t.newest, r.t.version r.t.newest) → (id : ℕ) (v : View E D O) → get_elem? s.views id ≡ some v → (role : Role) → FitsRole M (fixed_of M k) r.t id v role → Learns M.kind v role r.t.log
    learns last id v at Spent h = tt
    learns last id v at (Caller n) h = (h.3, allowed last v.rights.pass (pass_fits M decides k s r id v at))
    learns last id v at Admin h = record {
      last = last ∙ (λ i. (sym h.newest i, sym h.version i));
      controls_are = h.controls_are;
      known = h.known;
      settled = (let b = r.passes.between in let a = r.acknowledged.0 in let c = h.newest in dite (ℕ_discrete r.t.settled r.t.newest) (λ e. inl (a ∙ (e ∙ sym c))) (λ ne. inr (omega arith)));
      unmade = λ n le. r.unmade n (let m = h.made in omega arith);
    }

    -- the seat with the turn has seen all, the slot is out, and what the seat says of the value is true of the one that it took
    pub has_seen : (id : ℕ) (v : View E D O) (w : ℕ) → get_elem? s.views id ≡ some v → v.ticket ≡ Served w → (s.homes ≡ none ∷ []) × (v.seen ≡ r.t.log) × HasOf M (fixed_of M k) v
    has_seen id v w at turn =
        ⊎_elim (λ h. let z : has_turn v.ticket ≡ false = h.3 id v at in let o : has_turn v.ticket ≡ true = ap has_turn turn in absurd (cc))
        (λ h.
        let e : h.0 ≡ id = serving.alone (map ticket_of s.views) (get_or s.words 3 0) (get_or s.words 4 0) id h.0 w h.1.ticket r.tickets (at_map ticket_of s.views id v at ∙ ap some turn) (at_map ticket_of s.views h.0 h.1 h.3) h.4 in
        let u : h.1 ≡ v = same_place s.views id h.1 v (subst (λ (j : ℕ). get_elem? s.views j ≡ some h.1) e h.3) at in
        (h.2, ap (λ (x : View E D O). x.seen) (sym u) ∙ h.5, subst (HasOf M (fixed_of M k)) u h.6)) r.place

    -- what a seat is, once it has the turn with the history that counts
    role_taken : (id : ℕ) (v : View E D O) (x : V) (n : ℕ) → M.history x ≡ r.t.log → (role : Role) → IsLive role → FitsRole M (fixed_of M k) r.t id v role → FitsRole M (fixed_of M k) r.t id (took M x v n) role
    role_taken id v x n hist Spent alive h = absurd alive
    role_taken id v x n hist (Caller m) alive h = h
    role_taken id v x n hist Admin alive h = record { first = h.first; made = h.made; retired = h.retired; ended = h.ended; newest = h.newest; version = h.version; counted = h.counted; clear = h.clear; controls_are = h.controls_are; known = ap (controls M.kind) hist ∙ h.controls_are; fixed = h.fixed; outside = h.outside; turns = h.turns; once = h.once }

  -- looking at the ticket served: one load of word 4
  pub poll : (slots id : ℕ) (me : Me (Option V) (View E D O)) (w : ℕ) → IsLive me.0.role → me.0.ticket ≡ Drawn w → me.1 ≡ []
      → Allows (RuleHolds M decides k) slots id me 4 (λ n. n) (polls M decides (step slots 4 0 0 none) me)
  poll slots id me w alive waits empty s r deep at low =
      dite (ℕ_discrete (get_or s.words 4 0) w) hit
      (λ ne. (
        missed v g,
        keeps,
        tt,
        loads M decides k s r id v at (traced v.trace (done 4 g g)) v.served 4 alive,
        ((λ e. absurd (ne (e ∙ ap word_of waits))), (λ _. refl), stood M decides k s r id v at alive 4),
      ))
    where
      v : View E D O
      v = me.0

      g : ℕ
      g = get_or s.words 4 0

      at_ticket : get_elem? (map ticket_of s.views) id ≡ some (Drawn w)
      at_ticket = at_map ticket_of s.views id me.0 at ∙ ap some waits

      hit : get_or s.words 4 0 ≡ w → (w' : View E D O) × (a : Act (Option V)) × Valid s.homes me.1 a × RuleHolds M decides k (stepped s 4 (get_or s.words 4 0) id me.1 w' a) × polls M decides (step slots 4 0 0 none) me (get_or s.words 4 0) (w', carried_after me.1 a)
      hit same = ⊎_elim home (λ h. let o : has_turn h.1.ticket ≡ false = nobody h.0 h.1 h.3 in let t = h.4 in absurd (cc)) r.place
        where
          nobody : (j : ℕ) (u : View E D O) → get_elem? s.views j ≡ some u → has_turn u.ticket ≡ false
          nobody j u there = serving.nobody (map ticket_of s.views) (get_or s.words 3 0) (get_or s.words 4 0) id w j u.ticket r.tickets (few_views s r) at_ticket same (at_map ticket_of s.views j u there)

          last : last_notice M.kind r.t.log ≡ (r.t.newest, r.t.version r.t.newest)
          last = noticed_by_all s r (λ u there turn role. let o : has_turn u.ticket ≡ false = nobody 0 u there in absurd (cc))

          home : IsHome M (fixed_of M k) s.homes r.t.log s.views → (w' : View E D O) × (a : Act (Option V)) × Valid s.homes me.1 a × RuleHolds M decides k (stepped s 4 (get_or s.words 4 0) id me.1 w' a) × polls M decides (step slots 4 0 0 none) me (get_or s.words 4 0) (w', carried_after me.1 a)
          home h =
              let x = h.0 in
              let hist : M.history x ≡ r.t.log = h.2 in
              let w' = took M x me.0 (get_or s.words 4 0) in
              let is_of : IsOf M (fixed_of M k) x = (h.4, h.5, subst (M.promise (fixed_of M k).opening (fixed_of M k).decider) (sym hist) r.promised, h.6) in (
                w',
                takes 0 (Some x),
                ap (λ (hs : List (maybe.Option (Option V))). get_elem? hs 0) h.1,
                record {
                  t = r.t;
                  wide = length-set s.words 4 (get_or s.words 4 0) ∙ r.wide;
                  seats = (length-set s.views id w' ∙ r.seats.0, r.seats.1, r.seats.2);
                  first = subst (λ (l : List Role). get_elem? l 0 ≡ some Admin) (sym (map_kept role_of s.views id me.0 w' at refl)) r.first;
                  numbers = subst (λ (l : List Role). sum_by is_caller l + r.t.gone ≡ r.t.made) (sym (map_kept role_of s.views id me.0 w' at refl)) r.numbers;
                  tickets = subst (λ (ws : List ℕ). Tickets (map ticket_of (set s.views id w')) (get_or ws 3 0) (get_or ws 4 0)) (sym (word_same s.words 4))
                      (subst (λ (l : List Ticket). Tickets l (get_or s.words 3 0) (get_or s.words 4 0)) (sym (map_moved ticket_of s.views id w' (Served w) (ap Served same)))
                      (serving.serves (map ticket_of s.views) (get_or s.words 3 0) (get_or s.words 4 0) id w r.tickets (few_views s r) at_ticket same));
                  passes = subst (λ (ws : List ℕ). Passes (map rights_of (set s.views id w')) r.t.newest r.t.settled r.t.forced r.t.counted ((k.seats - r.t.made) * k.quota) r.t.clear r.t.version (get_or ws 0 0) (get_or ws 1 0) (get_or ws 2 0)) (sym (word_same s.words 4))
                      (subst (λ (l : List Rights). Passes l r.t.newest r.t.settled r.t.forced r.t.counted ((k.seats - r.t.made) * k.quota) r.t.clear r.t.version (get_or s.words 0 0) (get_or s.words 1 0) (get_or s.words 2 0)) (sym (map_kept rights_of s.views id me.0 w' at refl)) r.passes);
                  rows = subst (Rows (decides (fixed_of M k).decider) r.t.newest r.t.version) (sym (word_same s.words 4)) r.rows;
                  acknowledged = r.acknowledged;
                  noticed = inl last;
                  dated = r.dated;
                  begins = r.begins;
                  promised = r.promised;
                  place = inr (id, w', ap (λ (hs : List (maybe.Option (Option V))). set hs 0 none) h.1, set_here s.views id w' (within s.views id me.0 at), refl, hist, (x, is_of, refl, refl, refl));
                  each = each_set (Fits M (fixed_of M k) r.t) s.views id w'
                      (record {
                        seen = subst (StartsWith r.t.log) (sym hist) (begins_here r.t.log);
                        promised = subst (M.promise (fixed_of M k).opening (fixed_of M k).decider) (sym hist) r.promised;
                        noticed = (let e : (last_notice M.kind (M.history x)).0 ≡ r.t.newest = ap (λ (l : List E). (last_notice M.kind l).0) hist ∙ ap (λ (p : ℕ × ℕ). p.0) last in omega arith);
                        role = role_taken s r id me.0 x (get_or s.words 4 0) hist me.0.role alive (r.each id me.0 at).role;
                      })
                      (λ j u other e. r.each j u e);
                  unmade = r.unmade;
                },
                (
                  (λ _. (
                    x,
                    (λ i. (w', (0, Some x) ∷ empty i)),
                    (
                      subst (λ (l : List E). StartsWith l me.0.seen) (sym hist) (r.each id me.0 at).seen,
                      subst (Learns M.kind me.0 me.0.role) (sym hist) (learns s r last id me.0 at me.0.role (r.each id me.0 at).role),
                      (λ f e. subst (λ (y : Fixed D O). IsOf M y x) (same_fixed M decides k s r id me.0 at alive f e) is_of),
                    ),
                  )),
                  (λ ne. absurd (ne (same ∙ sym (ap word_of waits)))),
                  stood M decides k s r id me.0 at alive 4,
                ),
              )
