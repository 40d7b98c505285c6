-- How tickets stay in order when one is drawn, served or passed, and when a seat is added.
use Rattle.std.proofs.Common.{◌≡◌, ◌≢◌, ℕ, ◌+◌, ◌%◌, ◌<◌, ◌≤◌, true, false, List, [], ◌∷◌, ◌++◌, length, set, sym, refl, ap, ◌∙◌, arith}
use Rattle.std.proofs.lemmas.List.Sums.{sum_by_push}
use mathlib.Core.Option.{some, some-injective}
use lib.ListN.{get_elem?}
use Rattle.atomic_table.proofs.Lists.{one_turn}
use Rattle.gate_rule.specs.declared.view.Ticket.{Ticket}
use Rattle.gate_rule.specs.declared.view.Ticket.TheVariants.{Without, Drawn, Served}
use Rattle.gate_rule.specs.Tickets.{Tickets, FitsTicket, has_ticket, has_turn}
use Rattle.gate_rule.proofs.Places.{put, put_here, put_else, each_set, each_more, sum_set, sum_short}

pub turn_is : (t : Ticket) → has_turn t ≡ true → (w : ℕ) × (t ≡ Served w)
turn_is Without e = absurd (cc)
turn_is (Drawn w) e = absurd (cc)
turn_is (Served w) e = (w, refl)

at_most_one : (t : Ticket) → has_ticket t ≤ 1
at_most_one Without = omega arith
at_most_one (Drawn w) = omega arith
at_most_one (Served w) = omega arith

pub draws : (ts : List Ticket) (next serving id : ℕ) → Tickets ts next serving → get_elem? ts id ≡ some Without → Tickets (set ts id (Drawn next)) ((next + 1) % 18446744073709551616) serving
draws ts next serving id r at = record {
  drawn = r.drawn + 1;
  served = r.served;
  owner = put r.owner r.drawn id;
  next_is = let e = r.next_is in omega arith;
  serving_is = r.serving_is;
  counted = let e = r.counted in let s = sum_set has_ticket ts id Without (Drawn next) at in omega arith;
  each = each_set (FitsTicket (r.drawn + 1) r.served (put r.owner r.drawn id)) ts id (Drawn next)
      (r.drawn, sym r.next_is, (let e = r.counted in omega arith), omega arith, put_here r.owner r.drawn id)
      (λ j t other e. go j t (r.each j t e));
}
  where
    go : (j : ℕ) (t : Ticket) → FitsTicket r.drawn r.served r.owner j t → FitsTicket (r.drawn + 1) r.served (put r.owner r.drawn id) j t
    go j Without h = tt
    go j (Drawn w) h = let lt = h.3 in (h.0, h.1, h.2, omega arith, put_else r.owner r.drawn id h.0 (λ e. omega arith) ∙ h.4)
    go j (Served w) h = let lt = h.1 in (h.0, omega arith, put_else r.owner r.drawn id r.served (λ e. omega arith) ∙ h.2)

-- where the word served is the drawn ticket's, it is that ticket's turn
pub same_ticket : (ts : List Ticket) (next serving id w : ℕ) (r : Tickets ts next serving) → length ts < 18446744073709551616 → serving ≡ w → FitsTicket r.drawn r.served r.owner id (Drawn w) → (r.served < r.drawn) × (r.owner r.served ≡ id)
same_ticket ts next serving id w r few same h =
    let e : r.served ≡ h.0 = one_turn r.served h.0 18446744073709551616 h.2 (let c = r.counted in let s = sum_short has_ticket at_most_one ts in let k = h.3 in omega arith) (sym r.serving_is ∙ (same ∙ sym h.1)) in
    (let k = h.3 in omega arith, ap r.owner e ∙ h.4)

pub serves : (ts : List Ticket) (next serving id w : ℕ) → Tickets ts next serving → length ts < 18446744073709551616 → get_elem? ts id ≡ some (Drawn w) → serving ≡ w → Tickets (set ts id (Served w)) next serving
serves ts next serving id w r few at same = let here = same_ticket ts next serving id w r few same (r.each id (Drawn w) at) in record {
  drawn = r.drawn;
  served = r.served;
  owner = r.owner;
  next_is = r.next_is;
  serving_is = r.serving_is;
  counted = let e = r.counted in let s = sum_set has_ticket ts id (Drawn w) (Served w) at in omega arith;
  each = each_set (FitsTicket r.drawn r.served r.owner) ts id (Served w) (sym r.serving_is ∙ same, here.0, here.1) (λ j t other e. r.each j t e);
}

pub passes : (ts : List Ticket) (next serving id w : ℕ) → Tickets ts next serving → get_elem? ts id ≡ some (Served w) → Tickets (set ts id Without) next ((serving + 1) % 18446744073709551616)
passes ts next serving id w r at = let mine = r.each id (Served w) at in record {
  drawn = r.drawn;
  served = r.served + 1;
  owner = r.owner;
  next_is = r.next_is;
  serving_is = let e = r.serving_is in omega arith;
  counted = let e = r.counted in let s = sum_set has_ticket ts id (Served w) Without at in omega arith;
  each = each_set (FitsTicket r.drawn (r.served + 1) r.owner) ts id Without tt (λ j t other e. go mine.2 j other t (r.each j t e));
}
  where
    go : r.owner r.served ≡ id → (j : ℕ) → j ≢ id → (t : Ticket) → FitsTicket r.drawn r.served r.owner j t → FitsTicket r.drawn (r.served + 1) r.owner j t
    go own j other Without h = tt
    go own j other (Drawn w') h = let apart : h.0 ≢ r.served = λ e. other (sym h.4 ∙ (ap r.owner e ∙ own)) in let le = h.2 in (h.0, h.1, omega arith, h.3, h.4)
    go own j other (Served w') h = absurd (other (sym h.2 ∙ own))

pub joins : (ts : List Ticket) (next serving : ℕ) → Tickets ts next serving → Tickets (ts ++ Without ∷ []) next serving
joins ts next serving r = record {
  drawn = r.drawn;
  served = r.served;
  owner = r.owner;
  next_is = r.next_is;
  serving_is = r.serving_is;
  counted = let e = r.counted in omega (arith, sum_by_push has_ticket ts Without);
  each = each_more (FitsTicket r.drawn r.served r.owner) ts Without tt r.each;
}

-- one seat at most has the turn
pub alone : (ts : List Ticket) (next serving i j w : ℕ) (t : Ticket) → Tickets ts next serving → get_elem? ts i ≡ some (Served w) → get_elem? ts j ≡ some t → has_turn t ≡ true → j ≡ i
alone ts next serving i j w t r at there turn =
    let is = turn_is t turn in
    let other = r.each j (Served is.0) (there ∙ ap some is.1) in
    sym other.2 ∙ (r.each i (Served w) at).2

-- where a drawn ticket is the next, no seat has the turn
pub nobody : (ts : List Ticket) (next serving id w j : ℕ) (t : Ticket) → Tickets ts next serving → length ts < 18446744073709551616 → get_elem? ts id ≡ some (Drawn w) → serving ≡ w → get_elem? ts j ≡ some t → has_turn t ≡ false
nobody ts next serving id w j t r few at same there = go t there (r.each j t there)
  where
    go : (t : Ticket) → get_elem? ts j ≡ some t → FitsTicket r.drawn r.served r.owner j t → has_turn t ≡ false
    go Without there h = refl
    go (Drawn k) there h = refl
    go (Served k) there h =
        let here = same_ticket ts next serving id w r few same (r.each id (Drawn w) at) in
        let e : j ≡ id = sym h.2 ∙ here.1 in
        let clash : Drawn w ≡ Served k = some-injective (Drawn w) (Served k) (sym at ∙ (ap (get_elem? ts) (sym e) ∙ there)) in
        absurd (cc)

-- after the turn is passed, no seat has it
pub passed : (ts : List Ticket) (next serving id w j : ℕ) (t : Ticket) → Tickets ts next serving → get_elem? ts id ≡ some (Served w) → j ≢ id → get_elem? ts j ≡ some t → has_turn t ≡ false
passed ts next serving id w j t r at other there = go t there
  where
    go : (t : Ticket) → get_elem? ts j ≡ some t → has_turn t ≡ false
    go Without there = refl
    go (Drawn k) there = refl
    go (Served k) there = absurd (other (alone ts next serving id j w (Served k) r at there refl))
