-- The administrator's worker over the three stations: it may begin, and what it leaves.
use Rattle.std.proofs.Common.{◌≡◌, ℕ, zero, suc, ◌+◌, ◌<◌, Bool, true, false, List, [], ◌∷◌, ◌++◌, map, length, Option, Some, None, refl, sym, ap, subst, ◌∙◌, arith}
use Rattle.std.specs.Prelude.{◌==◌, ◌&&◌, All, slice_get, unwrap_or, IfSome, OnOk, Result, Ok, Err}
use Rattle.std.specs.List.{list_all}
use Rattle.std.proofs.lemmas.List.Elements.{All-head, All-tail}
use Rattle.access_vectors.specs.Decisions.{Decisions}
use Rattle.retained_rights.specs.declared.callbacks.EachBits.{EachBits}
use Rattle.retained_rights.specs.declared.callbacks.AllBits.{AllBits}
use Rattle.manager_history.specs.declared.entry.Entry.{Entry}
use Rattle.managed.specs.Seen.{Turn}
use Rattle.gate_rule.specs.declared.view.Item.{Item}
use Rattle.epoch_gate.specs.Seats.{SeatView}
use Rattle.epoch_gate.specs.Known.{seats_made, seats_retired, turns_had}
use Rattle.managed_run.specs.Changes.{or_none, IsClear}
use Rattle.managed_run.specs.Administering.{turn_of}
use Rattle.one_of_three.specs.declared.three.OneOfThree.TheVariants as one
use Rattle.access_vectors.specs.Phases.{number_of, is_pending}
use Rattle.change_protocol.specs.Changes.{Led, AreBoth}
use Rattle.session_text.specs.declared.session.RunLine.{RunLine}
use Rattle.admin_walk.specs.Walks.{is_clear, own_lines}
use Rattle.admin_walk.specs.Moves.{AreTold, AreClear, IsExplained, forces, forced_of, notices_of}
use Rattle.run_histories.specs.Histories.{IsWalked}
use Rattle.client_script.specs.declared.stations.Stations.{Stations}
use Rattle.station_start.specs.declared.started.Admins.{Admins}
use Rattle.thread_run.specs.declared.administrator.Office.{Office}
use Rattle.thread_run.specs.Workers.{MayAdminister}
use Rattle.thread_run.specs.Managers.{AreBefore, AreAfter, AreHeld, AreWalked, OneHolding, managers_of, seen_one, IsSameOne, led_first}

-- each manager of the three tells its turns
pub all_told : {D : Type 0} (decides : D → Decisions) (stations : Stations D EachBits AllBits AllBits) (admins : Admins D) → AreTold (seen_one decides) (managers_of stations admins)
all_told decides stations admins zero = (map turn_of (turns_had admins.files), refl)
all_told decides stations admins (suc zero) = (map turn_of (turns_had admins.processes), refl)
all_told decides stations admins (suc (suc zero)) = (map turn_of (turns_had admins.ports), refl)
all_told decides stations admins (suc (suc (suc place))) = tt

-- administrators with the same seats made and retired
pub record AreKept {D : Type 0} (was now : Admins D) : Type 0 where
  pub made_files : seats_made now.files ≡ seats_made was.files
  pub made_processes : seats_made now.processes ≡ seats_made was.processes
  pub made_ports : seats_made now.ports ≡ seats_made was.ports
  pub retired_files : seats_retired now.files ≡ seats_retired was.files
  pub retired_processes : seats_retired now.processes ≡ seats_retired was.processes
  pub retired_ports : seats_retired now.ports ≡ seats_retired was.ports

-- managers that stay the same are the three of the same stations
pub record AreSameThree {D : Type 0} (stations : Stations D EachBits AllBits AllBits) (was : Admins D) (managers : List (OneHolding D)) : Type 0 where
  pub now : Admins D
  pub are : managers ≡ managers_of stations now
  pub kept : AreKept was now

module _ {D : Type 0} (stations : Stations D EachBits AllBits AllBits) (was : Admins D) where
  pub same_three : (managers : List (OneHolding D)) → ((place : ℕ) → AreBoth IsSameOne (slice_get (managers_of stations was) place) (slice_get managers place)) → AreSameThree stations was managers
  same_three [] same = absurd (same 0)
  same_three (f ∷ []) same = absurd (same 1)
  same_three (f ∷ p ∷ []) same = absurd (same 2)
  same_three (f ∷ p ∷ q ∷ x ∷ rest) same = absurd (same 3)
  same_three (one.Processes f ∷ p ∷ q ∷ []) same = absurd (same 0)
  same_three (one.Ports f ∷ p ∷ q ∷ []) same = absurd (same 0)
  same_three (one.Files f ∷ one.Files p ∷ q ∷ []) same = absurd (same 1)
  same_three (one.Files f ∷ one.Ports p ∷ q ∷ []) same = absurd (same 1)
  same_three (one.Files f ∷ one.Processes p ∷ one.Files q ∷ []) same = absurd (same 2)
  same_three (one.Files f ∷ one.Processes p ∷ one.Processes q ∷ []) same = absurd (same 2)
  same_three (one.Files f ∷ one.Processes p ∷ one.Ports q ∷ []) same = record {
    now = record { files = f.admin; processes = p.admin; ports = q.admin };
    are = ap (λ s. one.Files (record { site = s; admin = f.admin }) ∷ one.Processes p ∷ one.Ports q ∷ []) (same 0).site
        ∙ (ap (λ s. one.Files (record { site = stations.files; admin = f.admin }) ∷ one.Processes (record { site = s; admin = p.admin }) ∷ one.Ports q ∷ []) (same 1).site
        ∙ ap (λ s. one.Files (record { site = stations.files; admin = f.admin }) ∷ one.Processes (record { site = stations.processes; admin = p.admin }) ∷ one.Ports (record { site = s; admin = q.admin }) ∷ []) (same 2).site);
    kept = record {
      made_files = (same 0).made;
      made_processes = (same 1).made;
      made_ports = (same 2).made;
      retired_files = (same 0).retired;
      retired_processes = (same 1).retired;
      retired_ports = (same 2).retired;
    };
  }

  pub are_after : (now : Admins D) → AreKept was now → AreHeld stations now → AreAfter stations was now
  are_after now kept held = record {
    files = record { gate = held.files.gate; idle = held.files.idle; made = kept.made_files; retired = kept.retired_files };
    processes = record { gate = held.processes.gate; idle = held.processes.idle; made = kept.made_processes; retired = kept.retired_processes };
    ports = record { gate = held.ports.gate; idle = held.ports.idle; made = kept.made_ports; retired = kept.retired_ports };
  }

older_is : (looked : Option ℕ) → unwrap_or looked 0 ≡ or_none looked
older_is None = refl
older_is (Some older) = refl

-- a clear turn is clear as the administrator of a change sees it
one_clear : {Call Reply : Type 0} (item : Item (Entry Call Reply)) → IsClear item → is_clear (turn_of item) ≡ true
one_clear item is =
    ap (λ (n : ℕ). (n == 0) && (item.found == 0)) (older_is item.looked ∙ is.older) ∙ ap (λ (n : ℕ). (0 == 0) && (n == 0)) is.found

pub clear_turns : {Call Reply : Type 0} (items : List (Item (Entry Call Reply))) → All IsClear items → list_all is_clear (map turn_of items) ≡ true
clear_turns [] all = refl
clear_turns (item ∷ items) all =
    ap (λ (b : Bool). b && list_all is_clear (map turn_of items)) (one_clear item (All-head IsClear item items all)) ∙ clear_turns items (All-tail IsClear item items all)

-- the turns of one administrator, which had none before
walked_one : {Call Reply D O : Type 0} (lines : List RunLine) (chosen : List (ℕ × ℕ)) (was now : SeatView (Entry Call Reply) D O) (turns more : List Turn) → turns_had was ≡ []
    → Some (map turn_of (turns_had was)) ≡ Some turns → Some (map turn_of (turns_had now)) ≡ Some (turns ++ more) → notices_of more ≡ chosen → (forces lines ≡ false → forced_of more ≡ [])
    → IsWalked lines chosen (map turn_of (turns_had now))
walked_one lines chosen was now turns more none first then notices unforced =
    let before : map turn_of (turns_had was) ≡ turns = cc in
    let after : map turn_of (turns_had now) ≡ turns ++ more = cc in
    let empty : turns ≡ [] = sym before ∙ ap (map turn_of) none in
    let same : map turn_of (turns_had now) ≡ more = after ∙ ap (λ (l : List Turn). l ++ more) empty in
    record { notices = ap notices_of same ∙ notices; unforced = λ quiet. ap forced_of same ∙ unforced quiet }

grown_at : {X : Type 0} (R : X → X → Type 0) (place : ℕ) (xs ys us vs : List X) → xs ≡ us → ys ≡ vs → AreBoth R (slice_get xs place) (slice_get ys place) → AreBoth R (slice_get us place) (slice_get vs place)
grown_at {X = X} R place xs ys us vs is_us is_vs both = subst (λ (l : List X). AreBoth R (slice_get l place) (slice_get vs place)) is_us (subst (λ (l : List X). AreBoth R (slice_get xs place) (slice_get l place)) is_vs both)

module _ {D : Type 0} (decides : D → Decisions) (versions : ℕ) (lines : List RunLine) (stations : Stations D EachBits AllBits AllBits) (was now : Admins D) where
  clear_three : AreHeld stations now → seats_made now.files ≡ 0 → seats_made now.processes ≡ 0 → seats_made now.ports ≡ 0
      → (place : ℕ) → IfSome (slice_get (managers_of stations now) place) (λ manager. IfSome (seen_one decides manager).items AreClear)
  clear_three held files processes ports zero = clear_turns (turns_had now.files) (held.files.clear files)
  clear_three held files processes ports (suc zero) = clear_turns (turns_had now.processes) (held.processes.clear processes)
  clear_three held files processes ports (suc (suc zero)) = clear_turns (turns_had now.ports) (held.ports.clear ports)
  clear_three held files processes ports (suc (suc (suc place))) = tt

  -- the lines were run whole over the three, which had no turn before
  pub are_walked : (seats : ℕ) (a b : Led D (OneHolding D)) → AreBefore seats stations was → AreHeld stations now → a.managers ≡ managers_of stations was → b.managers ≡ managers_of stations now
      → IsExplained (seen_one decides) versions lines a b → AreWalked versions lines now
  are_walked seats a b before held is_a is_b told =
      let files = grown_at _ 0 a.managers b.managers (managers_of stations was) (managers_of stations now) is_a is_b (told.grown 0) in
      let processes = grown_at _ 1 a.managers b.managers (managers_of stations was) (managers_of stations now) is_a is_b (told.grown 1) in
      let ports = grown_at _ 2 a.managers b.managers (managers_of stations was) (managers_of stations now) is_a is_b (told.grown 2) in
      record {
        chosen = told.chosen;
        files = walked_one lines told.chosen was.files now.files files.0 files.1 before.files.turns files.2 files.3 files.4 files.5;
        processes = walked_one lines told.chosen was.processes now.processes processes.0 processes.1 before.processes.turns processes.2 processes.3 processes.4 processes.5;
        ports = walked_one lines told.chosen was.ports now.ports ports.0 ports.1 before.ports.turns ports.2 ports.3 ports.4 ports.5;
        explains = told.explains;
        at_once = λ none_files none_processes none_ports. told.at_once (λ place.
            subst (λ (l : List (OneHolding D)). IfSome (slice_get l place) (λ manager. IfSome (seen_one decides manager).items AreClear)) (sym is_b) (clear_three held none_files none_processes none_ports place));
      }

module _ {D : Type 0} (decides : D → Decisions) (stations : Stations D EachBits AllBits AllBits) (admins : Admins D) (decider : D) (most : ℕ) (was : Office D (OneHolding D))
    (begun : was.changes ≡ led_first decider most stations admins) where
  pub may_administer : own_lines was.lines.items < most → MayAdminister (seen_one decides) was
  may_administer room = record {
    settled = ap (λ (led : Led D (OneHolding D)). is_pending led.server.phase) begun;
    told = subst (λ (led : Led D (OneHolding D)). AreTold (seen_one decides) led.managers) (sym begun) (all_told decides stations admins);
    three = ap (λ (led : Led D (OneHolding D)). length led.managers) begun;
    room = subst (λ (led : Led D (OneHolding D)). number_of led.server.phase + own_lines was.lines.items < led.server.most) (sym begun) (omega (arith, room));
  }

  pub three_after : (managers : List (OneHolding D)) → ((place : ℕ) → AreBoth IsSameOne (slice_get was.changes.managers place) (slice_get managers place)) → AreSameThree stations admins managers
  three_after managers same =
      same_three stations admins managers (λ place. subst (λ (led : Led D (OneHolding D)). AreBoth IsSameOne (slice_get led.managers place) (slice_get managers place)) begun (same place))

  pub walked_after : (lines : List RunLine) (seats : ℕ) (now : Led D (OneHolding D)) (after : Admins D) → was.lines.items ≡ lines → AreBefore seats stations admins → AreHeld stations after → now.managers ≡ managers_of stations after
      → IsExplained (seen_one decides) (decides was.changes.server.decider).versions was.lines.items was.changes now → AreWalked (decides decider).versions lines after
  walked_after lines seats now after same before held are told =
      subst (λ (d : D). AreWalked (decides d).versions lines after) (ap (λ (led : Led D (OneHolding D)). led.server.decider) begun)
      (subst (λ (l : List RunLine). AreWalked (decides was.changes.server.decider).versions l after) same
      (are_walked decides (decides was.changes.server.decider).versions was.lines.items stations admins after seats was.changes now before held (ap (λ (led : Led D (OneHolding D)). led.managers) begun) are told))

pub on_ok : {T E P Q : Type 0} (said : Result T E) → (P → Q) → OnOk said P → OnOk said Q
on_ok (Ok value) then holds = then holds
on_ok (Err fault) then holds = tt
