use Rattle.std.specs.Str.{bytes_eq}
use Rattle.std.specs.HashMap.{get}
use Rattle.policy_versions.proofs.KindLemmas.{ArePlacesBelow}
use Rattle.policy_versions.proofs.kinds.places_of.Given as goal

abbrev pub invariant-kinds : goal.invariant-kinds
invariant-kinds l = ArePlacesBelow l.kinds l.place (get bytes_eq l.places)
