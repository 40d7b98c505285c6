-- Clients get their seats one after another.
use Rattle.std.proofs.Common.{◌≡◌, ◌∙◌, ◌<◌, ◌≤◌, ◌+◌, ℕ, zero, suc, List, [], ◌∷◌, ◌++◌, length, Option, Some, None, unwrap_or, refl, sym, ap, subst, arith}
use Rattle.std.specs.Prelude.{slice_get}
use Rattle.retained_rights.specs.declared.callbacks.AllBits.{AllBits}
use Rattle.retained_rights.specs.declared.callbacks.EachBits.{EachBits}
use Rattle.epoch_gate.specs.Seats.{SeatView, Site, IsOfGate}
use Rattle.epoch_gate.specs.Known.{seats_made, seats_allowed}
use Rattle.epoch_gate.specs.Calls.{HasMade}
use Rattle.client_script.specs.declared.stations.Stations.{Stations}
use Rattle.client_script.specs.declared.stations.Seats.{Seats}
use Rattle.station_start.specs.declared.started.Admins.{Admins}
use Rattle.station_start.specs.Seating.{MaySeatAt, MaySeat, MaySeatAllAt, MaySeatAll, HasSeatedAllAt, HasSeatedAll, HasSeated, AreFresh, AreSeating}

-- what holds of each place of a list holds with one item more
each_more : {X : Type 0} (P : ℕ → X → Type 0) (items : List X) (x : X) → ((place : ℕ) (y : X) → slice_get items place ≡ Some y → P place y) → P (length items) x
    → (place : ℕ) (y : X) → slice_get (items ++ x ∷ []) place ≡ Some y → P place y
each_more P [] x each last zero y at = subst (P 0) (ap (λ (o : Option _). unwrap_or o x) at) last
each_more P [] x each last (suc place) y at = absurd cc
each_more P (z ∷ items) x each last zero y at = each zero y at
each_more P (z ∷ items) x each last (suc place) y at = each_more (λ (n : ℕ). P (suc n)) items x (λ p y at. each (suc p) y at) last place y at

length_more : {X : Type 0} (items : List X) (x : X) → length (items ++ x ∷ []) ≡ length items + 1
length_more [] x = refl
length_more (y ∷ items) x = omega (arith, length_more items x)

module _ {E D O : Type 0} where
  -- at a station that has no seat yet
  none_at : (count : ℕ) (site : Site D O) (admin : SeatView E D O) → MaySeatAllAt count site admin → HasSeatedAllAt 0 site admin admin
  none_at count site admin may = record { gate = may.gate; made = may.none; retired = refl; turns = refl; seen = refl; number = refl; version = refl; ticket = refl }

  -- there is room for one more
  room_at : (count made : ℕ) (site : Site D O) (old now : SeatView E D O) → made < count → MaySeatAllAt count site old → HasSeatedAllAt made site old now → MaySeatAt site now
  room_at count made site old now below may seated = record { gate = seated.gate; room = omega (arith, may.room, seated.made, below) }

  -- one seat more was made
  more_at : (made : ℕ) (site : Site D O) (old now next : SeatView E D O) → HasSeatedAllAt made site old now → IsOfGate site next × HasMade now next → HasSeatedAllAt (made + 1) site old next
  more_at made site old now next seated more = record {
    gate = more.0;
    made = ap (λ v. v.admin_view.made) more.1 ∙ ap (λ (n : ℕ). n + 1) seated.made;
    retired = ap (λ v. v.admin_view.ended) more.1 ∙ seated.retired;
    turns = ap (λ v. v.admin_view.turns) more.1 ∙ seated.turns;
    seen = ap (λ v. v.seen) more.1 ∙ seated.seen;
    number = ap (λ v. v.admin_view.newest) more.1 ∙ seated.number;
    version = ap (λ v. v.admin_view.version) more.1 ∙ seated.version;
    ticket = ap (λ v. v.ticket) more.1 ∙ seated.ticket;
  }

module _ {D : Type 0} (count : ℕ) (stations : Stations D EachBits AllBits AllBits) (old : Admins D) where
  -- before the first client
  pub at_start : (all : List (Seats D EachBits AllBits AllBits)) → all ≡ [] → MaySeatAll count stations old → AreSeating count 0 stations old all old
  at_start all none may = record {
    few = omega arith;
    seated = subst (λ (all : List (Seats D EachBits AllBits AllBits)). HasSeatedAll 0 stations old all old) (sym none) (record {
      length_is = refl;
      each = λ client seats at. absurd cc;
      files = none_at count stations.files old.files may.files;
      processes = none_at count stations.processes old.processes may.processes;
      ports = none_at count stations.ports old.ports may.ports;
    });
    room = may;
  }

  -- the next client may have its seats
  pub may_more : (done : ℕ) (all : List (Seats D EachBits AllBits AllBits)) (now : Admins D) → done < count → AreSeating count done stations old all now → MaySeat stations now
  may_more done all now below on = record {
    files = room_at count done stations.files old.files now.files below on.room.files on.seated.files;
    processes = room_at count done stations.processes old.processes now.processes below on.room.processes on.seated.processes;
    ports = room_at count done stations.ports old.ports now.ports below on.room.ports on.seated.ports;
    same_processes = on.seated.processes.made ∙ sym on.seated.files.made;
    same_ports = on.seated.ports.made ∙ sym on.seated.files.made;
  }

  -- the next client has its seats
  pub one_more : (done : ℕ) (all : List (Seats D EachBits AllBits AllBits)) (seats : Seats D EachBits AllBits AllBits) (now next : Admins D) → done < count
      → AreSeating count done stations old all now → HasSeated stations now seats next → AreSeating count (done + 1) stations old (all ++ seats ∷ []) next
  one_more done all seats now next below on seated = record {
    few = omega (arith, below);
    seated = record {
      length_is = length_more all seats ∙ ap (λ (n : ℕ). n + 1) on.seated.length_is;
      each = each_more (AreFresh stations) all seats on.seated.each (subst (λ (n : ℕ). AreFresh stations n seats) (on.seated.files.made ∙ sym on.seated.length_is) seated.fresh);
      files = more_at done stations.files old.files now.files next.files on.seated.files seated.files;
      processes = more_at done stations.processes old.processes now.processes next.processes on.seated.processes seated.processes;
      ports = more_at done stations.ports old.ports now.ports next.ports on.seated.ports seated.ports;
    };
    room = on.room;
  }

  -- behind the last client
  pub all_seated : (done : ℕ) (all : List (Seats D EachBits AllBits AllBits)) (now : Admins D) → done ≡ count → AreSeating count done stations old all now
      → HasSeatedAll count stations old all now
  all_seated done all now same on = subst (λ (n : ℕ). HasSeatedAll n stations old all now) same on.seated
