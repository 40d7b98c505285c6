use Rattle.std.proofs.Common.{◌≡◌, ◌≤◌, length}
use Rattle.std.specs.Prelude.{vec_len, vec_capacity}
use Rattle.station_start.specs.Seating.{AreSeating}
use Rattle.station_start.proofs.seating.seat_all.Given as goal

abbrev pub invariant-clients : goal.invariant-clients
invariant-clients g l =
    record {
      seating : AreSeating l.count l._client l.stations l.fn.admins l.seats.items l.admins;
      len : vec_len l.seats ≡ l._client;
      room : l.count ≤ vec_capacity l.seats;
    }
