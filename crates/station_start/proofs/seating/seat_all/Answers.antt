use Rattle.std.proofs.Common.{◌+◌, ◌∙◌, ℕ, ap, arith}
use Rattle.station_start.proofs.Steps.{at_start, may_more, one_more, all_seated}
use Rattle.station_start.proofs.seating.seat_all.Goals as goal

pub clients-init : goal.clients-init
clients-init g c = record {
  seating = at_start c.args.count c.args.stations.now c.args.admins.now c.in_ok-seats.seats.items c.in_ok-seats.ensures.items c.requires;
  len = c.in_ok-seats.ensures.len;
  room = omega (arith, c.in_ok-seats.ensures.capacity, c.from.ensures);
}

pub seat_client-requires : goal.seat_client-requires
seat_client-requires g c =
    may_more c.args.count c.args.stations.now c.args.admins.now c.clients._client c.clients.seats.items c.clients.admins c.clients-test.true c.clients.invariant.seating

pub returns-clause-ok : goal.returns-clause-ok
returns-clause-ok g c =
    all_seated c.args.count c.args.stations.now c.args.admins.now c.clients._client c.clients.seats.items c.clients.admins
    (omega (arith, c.clients-test.false, c.clients.invariant.seating.few)) c.clients.invariant.seating

pub clients-preserved : goal.clients-preserved
clients-preserved g c = record {
  seating = rw (c.add.ensures.added)
      (one_more c.args.count c.args.stations.now c.args.admins.now c.clients._client c.clients.seats.items c.seat_client.result c.clients.admins c.seat_client.new.admins c.clients-test.true
      c.clients.invariant.seating c.seat_client.ensures);
  len = c.add.ensures.len ∙ ap (λ (n : ℕ). n + 1) c.clients.invariant.len;
  room = omega (arith, c.add.ensures.room, c.clients.invariant.room);
}
