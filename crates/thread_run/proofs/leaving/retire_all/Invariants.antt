use Rattle.std.proofs.Common.{◌≡◌, length}
use Rattle.std.specs.Prelude.{All}
use Rattle.std.specs.Vec.Iter.{into_iter_items, into_iter_len}
use Rattle.epoch_gate.specs.Seats.{IsOfGate}
use Rattle.run_histories.proofs.Retired.{IsRetiring}
use Rattle.thread_run.specs.declared.clients.Slot.{Slot}
use Rattle.thread_run.specs.Runs.{MayAllLeave, with_pens}
use Rattle.thread_run.proofs.leaving.retire_all.Given as goal

abbrev pub invariant-slots : goal.invariant-slots
invariant-slots g l =
    record {
      gate_files : IsOfGate l.stations.files l.files;
      gate_processes : IsOfGate l.stations.processes l.processes;
      gate_ports : IsOfGate l.stations.ports l.ports;
      of_files : IsRetiring (λ (slot : Slot _). slot.seats.files) l.fn.slots.items (into_iter_items l.slot-iterator) l.fn.admins.files l.files;
      of_processes : IsRetiring (λ (slot : Slot _). slot.seats.processes) l.fn.slots.items (into_iter_items l.slot-iterator) l.fn.admins.processes l.processes;
      of_ports : IsRetiring (λ (slot : Slot _). slot.seats.ports) l.fn.slots.items (into_iter_items l.slot-iterator) l.fn.admins.ports l.ports;
      left : MayAllLeave l.stations (into_iter_items l.slot-iterator);
      pens : All (λ (slot : Slot _). slot.pen.queue ≡ l.queue) (into_iter_items l.slot-iterator);
      queue_is : l.taker.queue ≡ l.queue;
      taker : with_pens l.taker (into_iter_items l.slot-iterator) ≡ with_pens l.fn.taker l.fn.slots.items;
      counted : into_iter_len l.slot-iterator ≡ length (into_iter_items l.slot-iterator);
    }
