use Rattle.std.proofs.Common.{◌≡◌, map, take}
use Rattle.std.specs.List.{All}
use Rattle.policy_versions.specs.Orders.{place_at, IsTexted}
use Rattle.policy_versions.proofs.order.texted_places.Given as goal

abbrev pub invariant-places : goal.invariant-places
invariant-places l = record {
  places : map (λ one. place_at l.places one.at) l.texted.items ≡ take l.at l.places;
  texts : All (IsTexted l.policy l.users l.places) l.texted.items;
}
