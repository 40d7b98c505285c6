-- A session that was prepared was run.
use Rattle.std.proofs.Common.{◌≡◌, ℕ, zero, suc, ◌+◌, ◌<◌, Bool, true, false, List, [], ◌∷◌, map, length, Some, refl, sym, ap, subst, ◌∙◌, arith}
use Rattle.std.specs.Prelude.{All, slice_get, is_ok, OnOk, Result, Ok, Err, None, Option}
use Rattle.std.specs.Global.{Vec}
use Rattle.std.specs.List.{AllZip, list_all}
use Rattle.std.proofs.lemmas.List.Sums.{AllPass-from_list_all}
use Rattle.access_vectors.specs.Decisions.{Decisions}
use Rattle.retained_rights.specs.declared.callbacks.EachBits.{EachBits}
use Rattle.retained_rights.specs.declared.callbacks.AllBits.{AllBits}
use Rattle.gate_rule.specs.declared.view.Pass.{Pass}
use Rattle.gate_rule.specs.declared.view.Pass.TheVariants.{Out, Inside}
use Rattle.gate_rule.specs.declared.view.Item.{Item}
use Rattle.managed.specs.Seen.{Turn}
use Rattle.epoch_gate.specs.Seats.{SeatView, Site}
use Rattle.epoch_gate.specs.Known.{decider_of, seats_made, turns_had}
use Rattle.session_text.specs.declared.session.RunLine.{RunLine}
use Rattle.session_text.specs.declared.session.SessionParts.{SessionParts}
use Rattle.client_acts.specs.Standings.{number_held}
use Rattle.client_script.specs.Scripts.{script_of, admin_script}
use Rattle.client_script.specs.Clients.{Standings, AreOf, HaveRoom, HasRun, HaveNone, HoldNone, AreSeated, IsFormedFor, standings_of}
use Rattle.client_script.specs.declared.stations.Stations.{Stations}
use Rattle.client_script.specs.declared.stations.Seats.{Seats}
use Rattle.admin_walk.specs.Explained.{Explains}
use Rattle.admin_walk.specs.Moves.{forces, versions_of}
use Rattle.run_histories.specs.Histories.{IsWalked}
use Rattle.run_histories.specs.Retiring.{MayLeave}
use Rattle.run_histories.proofs.Laws.{forces_admin}
use Rattle.audit_queue.specs.Pens.{QueueId, Posted}
use Rattle.client_acts.specs.declared.worker.Audit.{Audit}
use Rattle.thread_run.specs.declared.clients.Slot.{Slot}
use Rattle.station_start.specs.declared.started.Admins.{Admins}
use Rattle.thread_run.specs.declared.prepared.Staff.{Staff}
use Rattle.thread_run.specs.declared.prepared.Prepared.{Prepared}
use Rattle.thread_run.specs.Workers.{client_of, MayWork, MayPost, HasWorked, HasPosted}
use Rattle.thread_run.specs.Managers.{IsBefore, IsAfter, AreStations, AreBefore, AreAfter, AreWalked}
use Rattle.thread_run.specs.Runs.{new_pen, slots_of, IsReady, MayRun, IsPrepared, IsManned, AreManned, MayAllLeave, WasRun}
use Rattle.thread_run.proofs.Lists.{zip_at, zip_all, all_at}

module _ {D : Type 0} where
  -- what stands in a place of the slots
  pub slot_at : (queue : QueueId) (n : ℕ) (seats : List (Seats D EachBits AllBits AllBits)) (scripts : List (Vec RunLine)) (k : ℕ) (slot : Slot D) → slice_get (slots_of queue n seats scripts) k ≡ Some slot
      → (slice_get seats k ≡ Some slot.seats) × (slice_get scripts k ≡ Some slot.lines) × (slot.pen ≡ new_pen queue (n + k))
  slot_at queue n [] scripts k slot is = let no : ⊥ = cc in absurd no
  slot_at queue n (s ∷ seats) [] k slot is = let no : ⊥ = cc in absurd no
  slot_at queue n (s ∷ seats) (l ∷ scripts) zero slot is =
      let here : record { seats = s; pen = new_pen queue n; lines = l; ended = Ok tt } ≡ slot = cc in
      (ap (λ (one : Slot D). Some one.seats) here, ap (λ (one : Slot D). Some one.lines) here, sym (ap (λ (one : Slot D). one.pen) here) ∙ ap (new_pen queue) (omega arith))
  slot_at queue n (s ∷ seats) (l ∷ scripts) (suc k) slot is =
      let behind = slot_at queue (n + 1) seats scripts k slot is in (behind.0, behind.1, behind.2 ∙ ap (new_pen queue) (omega arith))

  slots_length : (queue : QueueId) (n : ℕ) (seats : List (Seats D EachBits AllBits AllBits)) (scripts : List (Vec RunLine)) → length scripts ≡ length seats → length (slots_of queue n seats scripts) ≡ length seats
  slots_length queue n [] scripts same = refl
  slots_length queue n (s ∷ seats) [] same = let no : ⊥ = omega (arith, same) in absurd no
  slots_length queue n (s ∷ seats) (l ∷ scripts) same = ap suc (slots_length queue (n + 1) seats scripts (omega (arith, same)))

  zip_length : (R : Slot D → Slot D → Type 0) (xs ys : List (Slot D)) → AllZip R xs ys → length ys ≡ length xs
  zip_length R [] [] zip = refl
  zip_length R [] (y ∷ ys) zip = absurd zip
  zip_length R (x ∷ xs) [] zip = absurd zip
  zip_length R (x ∷ xs) (y ∷ ys) zip = ap suc (zip_length R xs ys zip.1)

  -- each place of a list satisfies what all its elements do
  all_by_place : (P : Slot D → Type 0) (xs : List (Slot D)) → ((k : ℕ) (x : Slot D) → slice_get xs k ≡ Some x → P x) → All P xs
  all_by_place P [] at zero d below = let no : ⊥ = omega (arith, below) in absurd no
  all_by_place P [] at (suc k) d below = let no : ⊥ = omega (arith, below) in absurd no
  all_by_place P (x ∷ xs) at zero d below = at 0 x refl
  all_by_place P (x ∷ xs) at (suc k) d below = all_by_place P xs (λ j y is. at (suc j) y is) k d (omega (arith, below))

no_pass : (pass : Pass) → number_held pass ≡ None → pass ≡ Out
no_pass Out none = refl
no_pass (Inside number version) none = let no : ⊥ = cc in absurd no

pub ran_whole : {T E : Type 0} {P : Type 0} (said : Result T E) → is_ok said ≡ true → OnOk said P → P
ran_whole (Ok value) whole holds = holds
ran_whole (Err fault) whole holds = let no : ⊥ = cc in absurd no

module _ {D : Type 0} (decides : D → Decisions) (prepared : Prepared D) (may : MayRun decides prepared) (queue : QueueId) where
  pub ready_slot : (client : ℕ) (slot : Slot D) → slice_get (slots_of queue 0 prepared.seats.items prepared.scripts.items) client ≡ Some slot
      → IsReady decides prepared.stations client slot.seats slot.lines.items
  ready_slot client slot is = let at = slot_at queue 0 prepared.seats.items prepared.scripts.items client slot is in may.each client slot.seats slot.lines at.0 at.1

  may_work : (client : ℕ) (slot : Slot D) → IsReady decides prepared.stations client slot.seats slot.lines.items → MayWork decides prepared.stations slot
  may_work client slot ready = record {
    seated = ready.seated;
    fresh = ready.fresh;
    client = subst (λ (n : ℕ). AreOf n (standings_of slot.seats)) (sym ready.client_is.files) ready.client_is;
    room = ready.room;
    formed = subst (λ (n : ℕ). All (λ line. IsFormedFor decides prepared.stations n line.run) slot.lines.items) (sym ready.client_is.files) ready.formed;
  }

  may_post : (client : ℕ) (slot : Slot D) → slot.pen ≡ new_pen queue client → IsReady decides prepared.stations client slot.seats slot.lines.items → MayPost queue slot
  may_post client slot is ready = record {
    queue_is = ap (λ (pen : Posted). pen.queue) is;
    number_is = ap (λ (pen : Posted). pen.number) is ∙ sym ready.client_is.files;
    none = ap (λ (pen : Posted). pen.lines) is;
  }

  -- each client's worker may begin, and post
  pub all_may_work : All (λ (slot : Slot D). MayWork decides prepared.stations slot × MayPost queue slot) (slots_of queue 0 prepared.seats.items prepared.scripts.items)
  all_may_work = all_by_place (λ (slot : Slot D). MayWork decides prepared.stations slot × MayPost queue slot) (slots_of queue 0 prepared.seats.items prepared.scripts.items)
      (λ client slot is.
      let ready = ready_slot client slot is in
      (may_work client slot ready, may_post client slot ((slot_at queue 0 prepared.seats.items prepared.scripts.items client slot is).2 ∙ ap (new_pen queue) (omega arith)) ready))

  -- the clients' pens are the queue's yet
  pub are_of_queue : (audit : Audit) (slots : List (Slot D)) → AllZip (λ was now. HasWorked prepared.stations was now × HasPosted audit was now) (slots_of queue 0 prepared.seats.items prepared.scripts.items) slots
      → All (λ (slot : Slot D). slot.pen.queue ≡ queue) slots
  are_of_queue audit slots worked = all_by_place (λ (slot : Slot D). slot.pen.queue ≡ queue) slots
      (λ client slot here.
      let before = zip_at (λ was now. HasWorked prepared.stations was now × HasPosted audit was now) (slots_of queue 0 prepared.seats.items prepared.scripts.items) slots client slot worked here in
      let at = slot_at queue 0 prepared.seats.items prepared.scripts.items client before.0 before.1 in
      before.2.1.queue_is ∙ ap (λ (pen : Posted). pen.queue) at.2)

  -- there is a place for each client
  pub all_slots : (slots : List (Slot D)) → AllZip (HasWorked prepared.stations) (slots_of queue 0 prepared.seats.items prepared.scripts.items) slots → length slots ≡ length prepared.seats.items
  all_slots slots worked = zip_length (HasWorked prepared.stations) (slots_of queue 0 prepared.seats.items prepared.scripts.items) slots worked ∙ slots_length queue 0 prepared.seats.items prepared.scripts.items may.many

  module _ (slots : List (Slot D)) (worked : AllZip (HasWorked prepared.stations) (slots_of queue 0 prepared.seats.items prepared.scripts.items) slots)
      (admins : Admins D) (after : AreAfter prepared.stations prepared.staff.admins admins) where
    many : length slots ≡ length prepared.seats.items
    many = zip_length (HasWorked prepared.stations) (slots_of queue 0 prepared.seats.items prepared.scripts.items) slots worked ∙ slots_length queue 0 prepared.seats.items prepared.scripts.items may.many

    pub all_may_leave : MayAllLeave prepared.stations slots
    all_may_leave = zip_all (HasWorked prepared.stations) (λ (slot : Slot D). MayLeave prepared.stations slot.seats)
        (λ was now done. record {
          files = record { gate = done.seated.files.0; out = no_pass now.seats.files.view.rights.pass done.given.files; idle = done.seated.files.1 };
          processes = record { gate = done.seated.processes.0; out = no_pass now.seats.processes.view.rights.pass done.given.processes; idle = done.seated.processes.1 };
          ports = record { gate = done.seated.ports.0; out = no_pass now.seats.ports.view.rights.pass done.given.ports; idle = done.seated.ports.1 };
        }) (slots_of queue 0 prepared.seats.items prepared.scripts.items) slots worked

    manned : {E O : Type 0} (site : Site D O) (was now : SeatView E D O) → IsBefore (length prepared.seats.items) site was → IsAfter site was now → IsManned (length slots) site now
    manned site was now before then = record { gate = then.gate; idle = then.idle; made = then.made ∙ (before.made ∙ sym many); retired = then.retired ∙ before.retired }

    pub are_manned : AreManned (length slots) prepared.stations admins
    are_manned = record {
      files = manned prepared.stations.files prepared.staff.admins.files admins.files may.staff.admins.files after.files;
      processes = manned prepared.stations.processes prepared.staff.admins.processes admins.processes may.staff.admins.processes after.processes;
      ports = manned prepared.stations.ports prepared.staff.admins.ports admins.ports may.staff.admins.ports after.ports;
    }

    walked_session : (session : SessionParts) (chosen : List (ℕ × ℕ)) (turns : List Turn) → prepared.staff.script.items ≡ admin_script session.lines
        → IsWalked prepared.staff.script.items chosen turns → IsWalked session.lines chosen turns
    walked_session session chosen turns same walked = record {
      notices = walked.notices;
      unforced = λ quiet. walked.unforced (ap forces same ∙ forces_admin session.lines quiet);
    }

    module _ (session : SessionParts) (is : IsPrepared session prepared) (whole : list_all (λ (slot : Slot D). is_ok slot.ended) slots ≡ true)
        (walked : AreWalked (decides prepared.staff.decider.now).versions prepared.staff.script.items admins) where
      ran_at : (client : ℕ) (slot : Slot D) → slice_get slots client ≡ Some slot → AreOf client (standings_of slot.seats) × HasRun client (script_of client session.lines) (standings_of slot.seats)
      ran_at client slot here =
          let before = zip_at (HasWorked prepared.stations) (slots_of queue 0 prepared.seats.items prepared.scripts.items) slots client slot worked here in
          let was = before.0 in
          let ready = ready_slot client before.0 before.1 in
          let number : client_of before.0 ≡ client = ready.client_is.files in
          let ended : is_ok slot.ended ≡ true = all_at (λ (slot : Slot D). is_ok slot.ended ≡ true) slots client slot (AllPass-from_list_all (λ (slot : Slot D). is_ok slot.ended) slots whole) here in
          let run : HasRun (client_of before.0) before.0.lines.items (standings_of slot.seats) = ran_whole slot.ended ended before.2.ran in
          let script : before.0.lines.items ≡ script_of client session.lines = is.scripts client before.0.lines (slot_at queue 0 prepared.seats.items prepared.scripts.items client before.0 before.1).1 in (
            subst (λ (n : ℕ). AreOf n (standings_of slot.seats)) number before.2.client,
            subst (λ (n : ℕ). HasRun n (script_of client session.lines) (standings_of slot.seats)) number (subst (λ (l : List RunLine). HasRun (client_of before.0) l (standings_of slot.seats)) script run),
          )

      decider_is : decider_of prepared.stations.files ≡ prepared.staff.decider.now
      decider_is = may.staff.stations_are.files.decider_is

      no_seats : session.clients ≡ [] → length prepared.seats.items ≡ 0
      no_seats none = is.clients ∙ ap length none

      pub was_run : WasRun decides session walked.chosen prepared.stations slots admins
      was_run = record {
        opened_files = is.opened_files;
        opened_processes = is.opened_processes;
        opened_ports = is.opened_ports;
        decider_processes = may.staff.stations_are.processes.decider_is ∙ sym decider_is;
        decider_ports = may.staff.stations_are.ports.decider_is ∙ sym decider_is;
        clients = many ∙ is.clients;
        each = ran_at;
        files = walked_session session walked.chosen _ is.admin walked.files;
        processes = walked_session session walked.chosen _ is.admin walked.processes;
        ports = walked_session session walked.chosen _ is.admin walked.ports;
        explained = subst (λ (d : D). Explains false (decides d).versions false (admin_script session.lines) (versions_of walked.chosen)) (sym decider_is)
            (subst (λ (l : List RunLine). Explains false (decides prepared.staff.decider.now).versions false l (versions_of walked.chosen)) is.admin walked.explains);
        at_once = λ none. subst (λ (d : D). Explains true (decides d).versions false (admin_script session.lines) (versions_of walked.chosen)) (sym decider_is)
            (subst (λ (l : List RunLine). Explains true (decides prepared.staff.decider.now).versions false l (versions_of walked.chosen)) is.admin
            (walked.at_once (after.files.made ∙ (may.staff.admins.files.made ∙ no_seats none)) (after.processes.made ∙ (may.staff.admins.processes.made ∙ no_seats none))
            (after.ports.made ∙ (may.staff.admins.ports.made ∙ no_seats none))));
      }
