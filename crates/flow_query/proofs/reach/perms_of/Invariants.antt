use Rattle.std.proofs.Common.{take}
use Rattle.std.specs.List.{All}
use Rattle.flow_query.specs.Reaches.{HasRoute}
use Rattle.flow_query.proofs.reach.perms_of.Given as goal

abbrev pub invariant-routes : goal.invariant-routes
invariant-routes l = All (HasRoute l.class l.way l.perms) (take l.route-index l.routes)
