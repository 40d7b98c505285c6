use Rattle.std.proofs.Common.{◌≡◌, map, take}
use Rattle.policy_versions.specs.Orders.{place_at}
use Rattle.policy_versions.proofs.order.places_of.Given as goal

abbrev pub invariant-texts : goal.invariant-texts
invariant-texts l = l.found.items ≡ map (λ one. place_at l.places one.at) (take l.one-index l.texted)
