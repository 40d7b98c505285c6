use Rattle.std.proofs.Common.{sym, subst}
use Rattle.station_start.specs.declared.started.Admins.{Admins}
use Rattle.thread_run.specs.Managers.{AreAfter, AreWalked}
use Rattle.std.proofs.Common.{◌<◌, ap, List}
use Rattle.session_text.specs.declared.session.RunLine.{RunLine}
use Rattle.admin_walk.specs.Walks.{own_lines}
use Rattle.thread_run.proofs.Offices.{may_administer, three_after, walked_after, are_after, on_ok}
use denote.Param.Send.{sendable}
use Rattle.std.proofs.Crossing.{crosses}
use Rattle.station_crossing.proofs.Stations.{held_send}
use Rattle.thread_run.proofs.Cores.{file_core_send, process_core_send, port_core_send}
use Rattle.thread_run.proofs.Crossing.{file_call_send, file_reply_send, process_call_send, process_reply_send, port_call_send, port_reply_send, one_send}
use Rattle.thread_run.proofs.run.run_workers.Goals as goal

pub run_together-done-requires-clause-administrator : goal.run_together-done-requires-clause-administrator
run_together-done-requires-clause-administrator g c κs within =
    may_administer g.D.Decider.decides c.args.hall.now.stations.now c.args.staff.admins c.args.staff.decider.now c.args.staff.most c.in_ok-office.office c.in_ok-office.ensures.changes
    (subst (λ (l : List RunLine). own_lines l < c.args.staff.most) (sym c.in_ok-office.ensures.lines) c.requires.staff.1.room)

pub apart-admins-requires : goal.apart-admins-requires
apart-admins-requires g c =
    let same = three_after g.D.Decider.decides c.args.hall.now.stations.now c.args.staff.admins c.args.staff.decider.now c.args.staff.most c.in_ok-office.office c.in_ok-office.ensures.changes
    c.run_together-done.result.1.changes.managers c.run_together-done.ensures.administrator.same_is in
    record { stations = c.args.hall.now.stations.now; admins = same.now; are = same.are }

pub returns-clause-admins : goal.returns-clause-admins
returns-clause-admins g c =
    let stations = c.args.hall.now.stations.now in
    let same = three_after g.D.Decider.decides stations c.args.staff.admins c.args.staff.decider.now c.args.staff.most c.in_ok-office.office c.in_ok-office.ensures.changes
    c.run_together-done.result.1.changes.managers c.run_together-done.ensures.administrator.same_is in
    let told = c.apart-admins.ensures stations same.now same.are in
    subst (λ (a : Admins _). AreAfter stations c.args.staff.admins a) (sym told.0) (are_after stations c.args.staff.admins same.now same.kept told.1)

pub returns-clause-walked : goal.returns-clause-walked
returns-clause-walked g c =
    let stations = c.args.hall.now.stations.now in
    let same = three_after g.D.Decider.decides stations c.args.staff.admins c.args.staff.decider.now c.args.staff.most c.in_ok-office.office c.in_ok-office.ensures.changes
    c.run_together-done.result.1.changes.managers c.run_together-done.ensures.administrator.same_is in
    let told = c.apart-admins.ensures stations same.now same.are in
    on_ok c.run_together-done.result.1.ended
    (λ explained. subst (λ (a : Admins _). AreWalked (g.D.Decider.decides c.args.staff.decider.now).versions c.args.staff.script.items a) (sym told.0)
    (walked_after g.D.Decider.decides stations c.args.staff.admins c.args.staff.decider.now c.args.staff.most c.in_ok-office.office c.in_ok-office.ensures.changes c.args.staff.script.items c.requires.staff.0
    c.run_together-done.result.1.changes same.now c.in_ok-office.ensures.lines c.requires.staff.1.admins told.1 same.are explained))
    c.run_together-done.ensures.administrator.ran

pub run_together-done-requires-send-M : goal.run_together-done-requires-send-M
run_together-done-requires-send-M g c κs within =
    let y = c.type_bounds.sync-D in let a = one_send in let h = held_send in
    let cf = file_core_send in let cp = process_core_send in let cq = port_core_send in
    let kf = file_call_send in let rf = file_reply_send in let kp = process_call_send in let rp = process_reply_send in let kq = port_call_send in let rq = port_reply_send in
    search (sendable, crosses) depth 60 fits 100000
