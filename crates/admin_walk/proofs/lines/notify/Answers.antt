use Rattle.std.proofs.lemmas.Result.{on_ok_weaker, on_err_weaker}
use Rattle.admin_walk.specs.Moves.{is_short}
use Rattle.admin_walk.proofs.Noticing.{noticed_all, when_ok, when_err}
use Rattle.admin_walk.proofs.lines.notify.Goals as goal

pub returns-clause-ok : goal.returns-clause-ok
returns-clause-ok g c =
    let n = c.notify_all-answer in
    let outcome = noticed_all g.D.Decider.decides g.M.Managed.seen c.args.changes.now n.new.self c.args.ver n.result c.requires.ready n.ensures.was_led c.requires.room n.ensures.many
    n.ensures.answer n.ensures.refused n.ensures.server n.ensures.notified in
    on_ok_weaker c.ended.result (when_ok (is_short n.result) outcome) c.ended.ensures.ok

pub returns-clause-err : goal.returns-clause-err
returns-clause-err g c =
    let n = c.notify_all-answer in
    let outcome = noticed_all g.D.Decider.decides g.M.Managed.seen c.args.changes.now n.new.self c.args.ver n.result c.requires.ready n.ensures.was_led c.requires.room n.ensures.many
    n.ensures.answer n.ensures.refused n.ensures.server n.ensures.notified in
    on_err_weaker c.ended.result (when_err (is_short n.result) outcome) c.ended.ensures.err
