use Rattle.std.proofs.Common.{subst}
use Rattle.manager_history.specs.Histories.{start_of, IsLawful}
use Rattle.file_calls.specs.PlainManager as file_plain
use Rattle.file_calls.specs.States as file_states
use Rattle.process_calls.specs.PlainManager as process_plain
use Rattle.process_calls.specs.States as process_states
use Rattle.port_calls.specs.PlainManager as port_plain
use Rattle.port_calls.specs.States as port_states
use Rattle.epoch_gate.specs.Known.{decider_of}
use Rattle.client_script.specs.Scripts.{file_act, process_act, port_act}
use Rattle.run_histories.specs.Histories.{file_opening, process_opening, port_opening}
use Rattle.run_histories.proofs.Laws.{ended_one, of_run, keeps_calls}
use Rattle.run_histories.proofs.ending.end_run.Goals as goal

pub returns : goal.returns
returns g c = record {
  of_run = λ session chosen ran.
      let d = g.D.Decider.decides (decider_of c.args.stations.files) in
      let files = ended_one file_plain.answer file_plain.IsFormed d (file_states.opened_with (file_opening session)) file_act session chosen c.args.files c.end.result.history ran.at_files c.end.ensures.ended
      (subst (λ (o : _). IsLawful file_plain.answer file_plain.IsFormed d (start_of (file_states.opened_with o)) c.end.result.history) ran.opened_files c.end.ensures.lawful) in
      let processes = ended_one process_plain.answer process_plain.IsFormed d (process_states.opened_with (process_opening session)) process_act session chosen c.args.processes c.end-2.result.history ran.at_processes c.end-2.ensures.ended
      (subst (λ (o : _). IsLawful process_plain.answer process_plain.IsFormed d (start_of (process_states.opened_with o)) c.end-2.result.history) ran.opened_processes
      (subst (λ (e : _). IsLawful process_plain.answer process_plain.IsFormed (g.D.Decider.decides e) (start_of (process_states.opened_with c.args.stations.processes.fixed.opening.core.opening)) c.end-2.result.history) ran.decider_processes c.end-2.ensures.lawful)) in
      let ports = ended_one port_plain.answer port_plain.IsFormed d (port_states.opened_with (port_opening session)) port_act session chosen c.args.ports c.end-3.result.history ran.at_ports c.end-3.ensures.ended
      (subst (λ (o : _). IsLawful port_plain.answer port_plain.IsFormed d (start_of (port_states.opened_with o)) c.end-3.result.history) ran.opened_ports
      (subst (λ (e : _). IsLawful port_plain.answer port_plain.IsFormed (g.D.Decider.decides e) (start_of (port_states.opened_with c.args.stations.ports.fixed.opening.core.opening)) c.end-3.result.history) ran.decider_ports c.end-3.ensures.lawful)) in
      of_run d session chosen c.end.result.history c.end-2.result.history c.end-3.result.history files.0 processes.0 ports.0 files.1 processes.1 ports.1 ran.explained ran.at_once;
  files = keeps_calls c.args.files c.end.result.history c.end.ensures.ended;
  processes = keeps_calls c.args.processes c.end-2.result.history c.end-2.ensures.ended;
  ports = keeps_calls c.args.ports c.end-3.result.history c.end-3.ensures.ended;
}
