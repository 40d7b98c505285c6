use Rattle.thread_run.specs.declared.clients.Slot.{Slot}
use Rattle.thread_run.proofs.Retirement.{may_end, has_run, calls_at}
use Rattle.thread_run.proofs.leaving.close.Goals as goal

pub end_run-requires-clause-files : goal.end_run-requires-clause-files
end_run-requires-clause-files g c =
    may_end (λ (slot : Slot _). slot.seats.files) c.args.slots.items c.args.stations.files c.args.admins.files c.retire_all-files.result.files c.requires.admins.files c.retire_all-files.ensures.left.files

pub end_run-requires-clause-processes : goal.end_run-requires-clause-processes
end_run-requires-clause-processes g c =
    may_end (λ (slot : Slot _). slot.seats.processes) c.args.slots.items c.args.stations.processes c.args.admins.processes c.retire_all-files.result.processes c.requires.admins.processes
    c.retire_all-files.ensures.left.processes

pub end_run-requires-clause-ports : goal.end_run-requires-clause-ports
end_run-requires-clause-ports g c =
    may_end (λ (slot : Slot _). slot.seats.ports) c.args.slots.items c.args.stations.ports c.args.admins.ports c.retire_all-files.result.ports c.requires.admins.ports c.retire_all-files.ensures.left.ports

pub returns-clause-of_run : goal.returns-clause-of_run
returns-clause-of_run g c = λ session chosen run.
    c.end_run.ensures.of_run session chosen
    (has_run g.D.Decider.decides session chosen c.args.stations c.args.slots.items c.args.admins c.retire_all-files.result c.requires.admins c.retire_all-files.ensures.left run)

pub returns-clause-calls : goal.returns-clause-calls
returns-clause-calls g c = record {
  files_are = calls_at (λ (slot : Slot _). slot.seats.files) c.args.slots.items c.args.stations.files c.args.admins.files c.retire_all-files.result.files c.requires.admins.files
      c.retire_all-files.ensures.left.files c.end_run.result.files.history c.end_run.ensures.files;
  processes_are = calls_at (λ (slot : Slot _). slot.seats.processes) c.args.slots.items c.args.stations.processes c.args.admins.processes c.retire_all-files.result.processes c.requires.admins.processes
      c.retire_all-files.ensures.left.processes c.end_run.result.processes.history c.end_run.ensures.processes;
  ports_are = calls_at (λ (slot : Slot _). slot.seats.ports) c.args.slots.items c.args.stations.ports c.args.admins.ports c.retire_all-files.result.ports c.requires.admins.ports
      c.retire_all-files.ensures.left.ports c.end_run.result.ports.history c.end_run.ensures.ports;
}
