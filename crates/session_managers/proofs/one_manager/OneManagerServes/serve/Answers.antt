use Rattle.std.proofs.Common.{Ok, refl, ap}
use Rattle.access_vectors.specs.declared.class.Class.TheVariants as class
use Rattle.managed.specs.Posts.{answer_on, called, post_of}
use Rattle.file_calls.specs.PlainManager as file
use Rattle.file_store.specs.Stores as file_store
use Rattle.process_calls.specs.PlainManager as process
use Rattle.process_store.specs.Stores as process_store
use Rattle.port_calls.specs.PlainManager as port
use Rattle.port_store.specs.Stores as port_store
use Rattle.session_managers.specs.declared.acting.Reply.TheVariants as reply
use Rattle.session_managers.specs.declared.one_manager.OneManager.TheVariants as manager
use Rattle.session_managers.specs.One as one
use Rattle.session_managers.proofs.OneLemmas.{history_seen, served_seen, called_phase, called_told}
use Rattle.session_managers.proofs.SessionLemmas.{done_kept}
use Rattle.session_managers.proofs.one_manager.OneManagerServes.serve.Goals as goal

pub returns-in_ok-_got-in-File-File-clause-does : goal.returns-in_ok-_got-in-File-File-clause-does
returns-in_ok-_got-in-File-File-clause-does g c =
    let decides = g.D.Decider.decides in
    let client = c.args.act.client in
    let mark = c.in-Call.mark in
    let was = c.in-File-File.files in
    let now = c.call.new.self in
    let asks = c.in-File-File.call in
    let did = c.in_ok-_got-in-File-File.ensures in
    let post = post_of file_store.state_of file_store.follows was in
    let answer = answer_on file.answer (decides was.keeper.decider) post client asks in
    let after = called file.followed (decides was.keeper.decider) post client asks answer in
    let added = history_seen decides class.File file.pair_of one.file_opening file_store.state_of file_store.follows was now file.answer client mark asks did.added in
    rw (c.in-Call.is, c.in-File-File.is-0, c.in-File-File.is-1) (record {
      told = one.told reply.File file.answer (decides was.keeper.decider) post client asks;
      tells = refl;
      told_is = called_told reply.File file.answer (decides was.keeper.decider) post client mark asks was.keeper.history now.keeper.history did.added;
      place = ap one.Files did.post;
      added = added;
      kept = record {
        decider = did.same.decider;
        opening = ap one.FilesOpened did.same.opened;
        served = served_seen decides class.File file.pair_of one.file_opening file_store.state_of file_store.follows was now after client mark _ did.same did.post (called_phase file.followed (decides was.keeper.decider) post client asks answer) added;
      };
    })

pub returns-in_ok-_got-in-File-File-clause-served : goal.returns-in_ok-_got-in-File-File-clause-served
returns-in_ok-_got-in-File-File-clause-served g c = (done_kept g.D.Decider.decides c.args.act.client c.args.self.now (manager.File c.call.new.self) c.args.act.act (Ok tt) (returns-in_ok-_got-in-File-File-clause-does g c)).served

pub returns-in_ok-_got-in-Process-Process-clause-does : goal.returns-in_ok-_got-in-Process-Process-clause-does
returns-in_ok-_got-in-Process-Process-clause-does g c =
    let decides = g.D.Decider.decides in
    let client = c.args.act.client in
    let mark = c.in-Call.mark in
    let was = c.in-Process-Process.processes in
    let now = c.call-in-Process-Process.new.self in
    let asks = c.in-Process-Process.call in
    let did = c.in_ok-_got-in-Process-Process.ensures in
    let post = post_of process_store.state_of process_store.follows was in
    let answer = answer_on process.answer (decides was.keeper.decider) post client asks in
    let after = called process.followed (decides was.keeper.decider) post client asks answer in
    let added = history_seen decides class.Process process.pair_of one.process_opening process_store.state_of process_store.follows was now process.answer client mark asks did.added in
    rw (c.in-Call.is, c.in-Process-Process.is-0, c.in-Process-Process.is-1) (record {
      told = one.told reply.Process process.answer (decides was.keeper.decider) post client asks;
      tells = refl;
      told_is = called_told reply.Process process.answer (decides was.keeper.decider) post client mark asks was.keeper.history now.keeper.history did.added;
      place = ap one.Processes did.post;
      added = added;
      kept = record {
        decider = did.same.decider;
        opening = ap one.ProcessesOpened did.same.opened;
        served = served_seen decides class.Process process.pair_of one.process_opening process_store.state_of process_store.follows was now after client mark _ did.same did.post (called_phase process.followed (decides was.keeper.decider) post client asks answer) added;
      };
    })

pub returns-in_ok-_got-in-Process-Process-clause-served : goal.returns-in_ok-_got-in-Process-Process-clause-served
returns-in_ok-_got-in-Process-Process-clause-served g c = (done_kept g.D.Decider.decides c.args.act.client c.args.self.now (manager.Process c.call-in-Process-Process.new.self) c.args.act.act (Ok tt) (returns-in_ok-_got-in-Process-Process-clause-does g c)).served

pub returns-in_ok-_got-in-Port-Port-clause-does : goal.returns-in_ok-_got-in-Port-Port-clause-does
returns-in_ok-_got-in-Port-Port-clause-does g c =
    let decides = g.D.Decider.decides in
    let client = c.args.act.client in
    let mark = c.in-Call.mark in
    let was = c.in-Port-Port.ports in
    let now = c.call-in-Port-Port.new.self in
    let asks = c.in-Port-Port.call in
    let did = c.in_ok-_got-in-Port-Port.ensures in
    let post = post_of port_store.state_of port_store.follows was in
    let answer = answer_on port.answer (decides was.keeper.decider) post client asks in
    let after = called port.followed (decides was.keeper.decider) post client asks answer in
    let added = history_seen decides class.Port port.pair_of one.port_opening port_store.state_of port_store.follows was now port.answer client mark asks did.added in
    rw (c.in-Call.is, c.in-Port-Port.is-0, c.in-Port-Port.is-1) (record {
      told = one.told reply.Port port.answer (decides was.keeper.decider) post client asks;
      tells = refl;
      told_is = called_told reply.Port port.answer (decides was.keeper.decider) post client mark asks was.keeper.history now.keeper.history did.added;
      place = ap one.Ports did.post;
      added = added;
      kept = record {
        decider = did.same.decider;
        opening = ap one.PortsOpened did.same.opened;
        served = served_seen decides class.Port port.pair_of one.port_opening port_store.state_of port_store.follows was now after client mark _ did.same did.post (called_phase port.followed (decides was.keeper.decider) post client asks answer) added;
      };
    })

pub returns-in_ok-_got-in-Port-Port-clause-served : goal.returns-in_ok-_got-in-Port-Port-clause-served
returns-in_ok-_got-in-Port-Port-clause-served g c = (done_kept g.D.Decider.decides c.args.act.client c.args.self.now (manager.Port c.call-in-Port-Port.new.self) c.args.act.act (Ok tt) (returns-in_ok-_got-in-Port-Port-clause-does g c)).served
