use Rattle.std.proofs.Common.{refl}
use Rattle.managed_run.specs.Changes.{IsClear}
use Rattle.epoch_gate.specs.Known.{turns_had}
use Rattle.thread_run.proofs.Leading.{all_none, first_led}
use Rattle.thread_run.proofs.managers.lead.Goals as goal

pub new-requires-clause-clear : goal.new-requires-clause-clear
new-requires-clause-clear g c = λ none. all_none IsClear (turns_had c.args.admins.files) c.requires.admins.1.files.turns

pub new-requires-2-clause-clear : goal.new-requires-2-clause-clear
new-requires-2-clause-clear g c = λ none. all_none IsClear (turns_had c.args.admins.processes) c.requires.admins.1.processes.turns

pub new-requires-3-clause-clear : goal.new-requires-3-clause-clear
new-requires-3-clause-clear g c = λ none. all_none IsClear (turns_had c.args.admins.ports) c.requires.admins.1.ports.turns

pub new-requires-4 : goal.new-requires-4
new-requires-4 g c =
    rw (c.in_ok-managers.ensures.items, c.new.ensures, c.new-2.ensures, c.new-3.ensures, c.new-server.ensures)
    (first_led g.D.Decider.decides c.args.decider.now c.args.most c.requires.admins.0 c.args.stations.now c.args.admins (g.met.D.Decider.closed c.args.decider.now).some_version c.requires.stations c.requires.admins.1)

pub returns : goal.returns
returns g c = rw (c.new-4.ensures, c.in_ok-managers.ensures.items, c.new.ensures, c.new-2.ensures, c.new-3.ensures, c.new-server.ensures) refl
