-- Seats that are retired one after another.
use Rattle.std.proofs.Common.{◌≡◌, List, [], ◌∷◌, ◌++◌, map, refl, sym, ap, subst, ◌∙◌, append-nil, append_assoc}
use Rattle.std.specs.Prelude.{All}
use Rattle.std.proofs.lemmas.List.Elements.{All-head, All-tail}
use Rattle.epoch_gate.specs.Seats.{SeatView}
use Rattle.epoch_gate.specs.Known.{caller_number, own_entries, seats_made, seats_retired, turns_had}
use Rattle.epoch_gate.specs.Calls.{HasRetired}
use Rattle.gate_rule.specs.declared.view.Ended.{Ended}

-- what an administrator keeps of a seat: its number, and its own entries
abbrev pub kept_of : {E D O : Type 0} → SeatView E D O → Ended E
kept_of seat = record { number = caller_number seat; entries = own_entries seat }

-- these seats were retired, in order, and nothing else that counts at the end has changed: the seats made, the turns had, and whether
-- the administrator has the turn
pub record HasRetiredAll {S E D O : Type 0} (seat_of : S → SeatView E D O) (all : List S) (a b : SeatView E D O) : Type 0 where
  pub made : seats_made b ≡ seats_made a
  pub ended : seats_retired b ≡ seats_retired a ++ map (λ seats. kept_of (seat_of seats)) all
  pub turns : turns_had b ≡ turns_had a
  pub ticket : b.view.ticket ≡ a.view.ticket

module _ {S E D O : Type 0} (seat_of : S → SeatView E D O) where
  -- some of the seats are retired, and these are left
  pub record IsRetiring (all left : List S) (start now : SeatView E D O) : Type 0 where
    pub made : seats_made now ≡ seats_made start
    pub ended : seats_retired now ++ map (λ seats. kept_of (seat_of seats)) left ≡ seats_retired start ++ map (λ seats. kept_of (seat_of seats)) all
    pub turns : turns_had now ≡ turns_had start
    pub ticket : now.view.ticket ≡ start.view.ticket

  pub none_retired : (all left : List S) (start : SeatView E D O) → left ≡ all → IsRetiring all left start start
  none_retired all left start same = record { made = refl; ended = ap (λ (l : List S). seats_retired start ++ map (λ seats. kept_of (seat_of seats)) l) same; turns = refl; ticket = refl }

  pub one_retired : (all left rest : List S) (seats : S) (start now next : SeatView E D O) → left ≡ seats ∷ rest → IsRetiring all left start now → HasRetired now (seat_of seats) next → IsRetiring all rest start next
  one_retired all left rest seats start now next split on retired = record {
    made = ap (λ v. v.admin_view.made) retired ∙ on.made;
    ended = ap (λ v. v.admin_view.ended ++ map (λ seats. kept_of (seat_of seats)) rest) retired
        ∙ (append_assoc (seats_retired now) (kept_of (seat_of seats) ∷ []) (map (λ seats. kept_of (seat_of seats)) rest)
        ∙ (ap (λ (l : List S). seats_retired now ++ map (λ seats. kept_of (seat_of seats)) l) (sym split) ∙ on.ended));
    turns = ap (λ v. v.admin_view.turns) retired ∙ on.turns;
    ticket = ap (λ v. v.ticket) retired ∙ on.ticket;
  }

  pub all_retired : (all left : List S) (start now : SeatView E D O) → IsRetiring all left start now → left ≡ [] → HasRetiredAll seat_of all start now
  all_retired all left start now on none = record {
    made = on.made;
    ended = sym (append-nil (seats_retired now)) ∙ (ap (λ (l : List S). seats_retired now ++ map (λ seats. kept_of (seat_of seats)) l) (sym none) ∙ on.ended);
    turns = on.turns;
    ticket = on.ticket;
  }

pub all_first : {X : Type 0} (P : X → Type 0) (items rest : List X) (x : X) → items ≡ x ∷ rest → All P items → P x
all_first P items rest x is all = All-head P x rest (subst (All P) is all)

pub all_rest : {X : Type 0} (P : X → Type 0) (items rest : List X) (x : X) → items ≡ x ∷ rest → All P items → All P rest
all_rest P items rest x is all = All-tail P x rest (subst (All P) is all)
