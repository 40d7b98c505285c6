-- The clients of a run have left, and the stations may be ended.
use Rattle.std.proofs.Common.{◌≡◌, ℕ, ◌<◌, List, [], ◌++◌, map, length, Some, refl, sym, ap, subst, ◌∙◌}
use Rattle.std.specs.Prelude.{slice_get}
use mathlib.Core.Option.{some}
use lib.ListN.{get_elem?}
use Rattle.access_vectors.specs.Decisions.{Decisions}
use Rattle.retained_rights.specs.declared.callbacks.EachBits.{EachBits}
use Rattle.retained_rights.specs.declared.callbacks.AllBits.{AllBits}
use Rattle.manager_history.specs.declared.entry.Entry.{Entry}
use Rattle.gate_rule.specs.declared.view.Ended.{Ended}
use Rattle.gate_rule.specs.declared.view.Item.{Item}
use Rattle.epoch_gate.specs.Seats.{SeatView, Site, IsOfGate}
use Rattle.epoch_gate.specs.Known.{caller_number, own_entries, seats_made, seats_retired, turns_had}
use Rattle.gate_rule.specs.History.{of_caller}
use Rattle.managed_run.specs.Kinds.{kind_of}
use Rattle.managed_run.specs.Administering.{turn_of}
use Rattle.session_text.specs.declared.session.Run.{Run}
use Rattle.session_text.specs.declared.session.SessionParts.{SessionParts}
use Rattle.client_acts.specs.Acts.{Act}
use Rattle.client_script.specs.Scripts.{script_of, file_act, process_act, port_act, IsWhole}
use Rattle.client_script.specs.declared.stations.Stations.{Stations}
use Rattle.run_histories.specs.Histories.{IsWalked, HasRunAt, MayEnd, HasRun, KeepsCalls}
use Rattle.run_histories.proofs.Retired.{IsRetiring, all_retired}
use Rattle.thread_run.specs.declared.clients.Slot.{Slot}
use Rattle.station_start.specs.declared.started.Admins.{Admins}
use Rattle.thread_run.specs.Runs.{kept_of, HasRetiredAll, IsManned, AreManned, HaveAllLeft, WasRun}
use Rattle.thread_run.proofs.Lists.{map_map, map_length, item_at, mapped_at}

module _ {S E D O : Type 0} (seat_of : S → SeatView E D O) where
  -- once no seat is left, all are retired
  pub left_all : (site : Site D O) (all left : List S) (start now : SeatView E D O) → IsOfGate site now → IsRetiring seat_of all left start now → left ≡ [] → HasRetiredAll site (map seat_of all) start now
  left_all site all left start now gate on none =
      let done = all_retired seat_of all left start now on none in
      record {
        gate = gate;
        made = done.made;
        ended = done.ended ∙ ap (λ (l : List (Ended E)). seats_retired start ++ l) (sym (map_map kept_of seat_of all));
        turns = done.turns;
        ticket = done.ticket;
      }

  -- the administrator keeps exactly these seats
  pub kept_are : (site : Site D O) (count : ℕ) (all : List S) (was now : SeatView E D O) → IsManned count site was → HasRetiredAll site (map seat_of all) was now
      → seats_retired now ≡ map (λ seats. kept_of (seat_of seats)) all
  kept_are site count all was now manned done =
      done.ended ∙ (ap (λ (l : List (Ended E)). l ++ map kept_of (map seat_of all)) manned.retired ∙ map_map kept_of seat_of all)

module _ {S Call Reply D O : Type 0} (seat_of : S → SeatView (Entry Call Reply) D O) (all : List S) (site : Site D O) (was now : SeatView (Entry Call Reply) D O)
    (manned : IsManned (length all) site was) (done : HasRetiredAll site (map seat_of all) was now) where
  pub may_end : MayEnd site now
  may_end = record {
    gate = done.gate;
    out = done.made ∙ (manned.made ∙ (sym (map_length (λ seats. kept_of (seat_of seats)) all) ∙ sym (ap length (kept_are seat_of site (length all) all was now manned done))));
    idle = done.ticket ∙ manned.idle;
  }

  -- a history that has each retired seat's entries has those of the seat in each place
  pub calls_at : (log : List (Entry Call Reply)) → KeepsCalls now log → (client : ℕ) (seats : S) → slice_get all client ≡ Some seats
      → own_entries (seat_of seats) ≡ of_caller kind_of (caller_number (seat_of seats)) log
  calls_at log keeps client seats is =
      keeps client (kept_of (seat_of seats))
      (subst (λ (l : List (Ended (Entry Call Reply))). get_elem? l client ≡ some (kept_of (seat_of seats))) (sym (kept_are seat_of site (length all) all was now manned done))
      (mapped_at (λ seats. kept_of (seat_of seats)) all client seats is))

  -- where the seats in each place are those of the client of that number, and its own entries are its whole script, a session was run there
  pub run_at : (act : ℕ → Run → List (Act Call)) (session : SessionParts) (chosen : List (ℕ × ℕ)) → length all ≡ length session.clients
      → ((client : ℕ) (seats : S) → slice_get all client ≡ Some seats
      → (caller_number (seat_of seats) ≡ client) × IsWhole act client (script_of client session.lines) (own_entries (seat_of seats)))
      → IsWalked session.lines chosen (map turn_of (turns_had was)) → HasRunAt act session chosen now
  run_at act session chosen many each walked = record {
    made = done.made ∙ (manned.made ∙ many);
    whole = λ client below.
        let seats = item_at all client (subst (λ (n : ℕ). client < n) (sym many) below) in
        let told = each client seats.0 seats.1 in (
          client,
          kept_of (seat_of seats.0),
          subst (λ (l : List (Ended (Entry Call Reply))). get_elem? l client ≡ some (kept_of (seat_of seats.0))) (sym (kept_are seat_of site (length all) all was now manned done))
              (mapped_at (λ seats. kept_of (seat_of seats)) all client seats.0 seats.1),
          told.0,
          told.1,
        );
    walked = subst (λ (items : List (Item (Entry Call Reply))). IsWalked session.lines chosen (map turn_of items)) (sym done.turns) walked;
  }

module _ {D : Type 0} (decides : D → Decisions) where
  pub has_run : (session : SessionParts) (chosen : List (ℕ × ℕ)) (stations : Stations D EachBits AllBits AllBits) (slots : List (Slot D)) (was now : Admins D)
      → AreManned (length slots) stations was → HaveAllLeft stations slots was now → WasRun decides session chosen stations slots was
      → HasRun decides session chosen stations now.files now.processes now.ports
  has_run session chosen stations slots was now manned left run = record {
    opened_files = run.opened_files;
    opened_processes = run.opened_processes;
    opened_ports = run.opened_ports;
    decider_processes = run.decider_processes;
    decider_ports = run.decider_ports;
    at_files = run_at (λ (slot : Slot D). slot.seats.files) slots stations.files was.files now.files manned.files left.files file_act session chosen run.clients
        (λ client slot is. ((run.each client slot is).0.files, (run.each client slot is).1.files)) run.files;
    at_processes = run_at (λ (slot : Slot D). slot.seats.processes) slots stations.processes was.processes now.processes manned.processes left.processes process_act session chosen run.clients
        (λ client slot is. ((run.each client slot is).0.processes, (run.each client slot is).1.processes)) run.processes;
    at_ports = run_at (λ (slot : Slot D). slot.seats.ports) slots stations.ports was.ports now.ports manned.ports left.ports port_act session chosen run.clients
        (λ client slot is. ((run.each client slot is).0.ports, (run.each client slot is).1.ports)) run.ports;
    explained = run.explained;
    at_once = run.at_once;
  }
