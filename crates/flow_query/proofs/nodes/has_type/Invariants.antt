use Rattle.std.proofs.Common.{◌≡◌, drop}
use Rattle.flow_query.specs.Hops
use Rattle.flow_query.proofs.nodes.has_type.Given as goal

abbrev pub invariant-contexts : goal.invariant-contexts
invariant-contexts l = Hops.has_type l.sids l.name ≡ Hops.has_type (drop l.place l.sids) l.name
