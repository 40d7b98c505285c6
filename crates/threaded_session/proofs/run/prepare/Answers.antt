use Rattle.std.proofs.Common.{refl, arith}
use Rattle.threaded_session.proofs.Ready.{ready, prepared_of}
use Rattle.threaded_session.proofs.run.prepare.Goals as goal

pub returns-clause-ready : goal.returns-clause-ready
returns-clause-ready g c =
    ready g.D.Decider.decides c.args.plan c.limits_of-limits.result c.in_ok-scripts.scripts c.in_ok-stations.field-0
    (record { decider = c.args.decider; most = c.limits_of-limits.result.most; admins = c.seat_all.new.admins; script = c.in_ok-scripts.scripts.admin }) c.in_ok-seats.seats
    c.in_ok-scripts.ensures c.in_ok-stations.ensures c.in_ok-seats.ensures.ok refl c.requires
    (omega (arith, c.len.ensures, c.limits_of-limits.ensures.quota)) refl (omega (arith, c.len.ensures, c.limits_of-limits.ensures.most.0)) c.limits_of-limits.ensures.most.1

pub returns-clause-of : goal.returns-clause-of
returns-clause-of g c =
    prepared_of g.D.Decider.decides c.args.plan c.limits_of-limits.result c.in_ok-scripts.scripts c.in_ok-stations.field-0
    (record { decider = c.args.decider; most = c.limits_of-limits.result.most; admins = c.seat_all.new.admins; script = c.in_ok-scripts.scripts.admin }) c.in_ok-seats.seats
    c.in_ok-scripts.ensures c.in_ok-stations.ensures c.in_ok-seats.ensures.ok refl
