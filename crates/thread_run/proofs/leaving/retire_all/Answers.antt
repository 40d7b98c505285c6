use Rattle.std.proofs.Common.{◌≡◌, ◌+◌, length, arith, ap, sym, ◌∙◌}
use Rattle.std.specs.Vec.Iter.{into_iter_items}
use Rattle.run_histories.specs.Retiring.{MayLeave}
use Rattle.run_histories.proofs.Retired.{one_retired, all_rest}
use Rattle.thread_run.specs.declared.clients.Slot.{Slot}
use Rattle.audit_queue.specs.Pens.{Taken}
use Rattle.thread_run.specs.Runs.{with_pens}
use Rattle.thread_run.proofs.Lists.{no_items}
use Rattle.thread_run.proofs.Pens.{pens_one, pens_none}
use Rattle.thread_run.proofs.Retirement.{left_all}
use Rattle.thread_run.proofs.leaving.retire_all.Goals as goal

pub slots-preserved : goal.slots-preserved
slots-preserved g c =
    let kept = c.slots.invariant in
    let step = c.in-Some.ensures.steps in
    let left = into_iter_items c.slots.slot-iterator in
    let rest = into_iter_items c.next.new.self in
    let behind : length (into_iter_items c.slots.slot-iterator) ≡ length (into_iter_items c.next.new.self) + 1 = ap length step.0 ∙ omega arith in
    record {
      gate_files = c.retire_client.ensures.files.0;
      gate_processes = c.retire_client.ensures.processes.0;
      gate_ports = c.retire_client.ensures.ports.0;
      of_files = one_retired (λ (slot : Slot _). slot.seats.files) c.args.slots.items left rest c.in-Some.slot c.args.admins.files c.slots.files c.retire_client.new.files step.0 kept.of_files c.retire_client.ensures.files.1;
      of_processes = one_retired (λ (slot : Slot _). slot.seats.processes) c.args.slots.items left rest c.in-Some.slot c.args.admins.processes c.slots.processes c.retire_client.new.processes step.0 kept.of_processes c.retire_client.ensures.processes.1;
      of_ports = one_retired (λ (slot : Slot _). slot.seats.ports) c.args.slots.items left rest c.in-Some.slot c.args.admins.ports c.slots.ports c.retire_client.new.ports step.0 kept.of_ports c.retire_client.ensures.ports.1;
      left = all_rest (λ (slot : Slot _). MayLeave c.args.stations.now slot.seats) left rest c.in-Some.slot step.0 kept.left;
      pens = all_rest (λ (slot : Slot _). slot.pen.queue ≡ c.args.queue.now) left rest c.in-Some.slot step.0 kept.pens;
      queue_is = ap (λ (taker : Taken). taker.queue) c.retire.ensures ∙ kept.queue_is;
      taker = ap (λ (taker : Taken). with_pens taker rest) c.retire.ensures ∙ (pens_one c.slots.taker c.in-Some.slot left rest step.0 ∙ kept.taker);
      counted = omega (arith, step.1, kept.counted, behind);
    }

pub returns : goal.returns
returns g c =
    let kept = c.slots.invariant in
    let left = into_iter_items c.slots.slot-iterator in
    let none = no_items (into_iter_items c.slots.slot-iterator) (omega (arith, kept.counted, c.in-None.ensures.steps.0)) in
    record {
      left = record {
        files = left_all (λ (slot : Slot _). slot.seats.files) c.args.stations.now.files c.args.slots.items left c.args.admins.files c.slots.files kept.gate_files kept.of_files none;
        processes = left_all (λ (slot : Slot _). slot.seats.processes) c.args.stations.now.processes c.args.slots.items left c.args.admins.processes c.slots.processes kept.gate_processes kept.of_processes none;
        ports = left_all (λ (slot : Slot _). slot.seats.ports) c.args.stations.now.ports c.args.slots.items left c.args.admins.ports c.slots.ports kept.gate_ports kept.of_ports none;
      };
      taker = sym (pens_none c.slots.taker left none) ∙ kept.taker;
    }
