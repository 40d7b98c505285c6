use Rattle.std.proofs.Common.{◌≡◌, ◌<◌, true, sym, arith, ◌∙◌}
use Rattle.flaskd_run.proofs.PathLemmas.{node_small}
use Rattle.flow_query.specs.Hops.{is_node}
use Rattle.flaskd_run.proofs.paths.node_named.Goals as goal

pub overflow_cast-result : goal.overflow_cast-result
overflow_cast-result c =
    let node : is_node c.args.policy.now c.args.sids.now c.in_ok-place.place ≡ true = sym c.is_node.ensures ∙ c.if-is_node.true in
    let small : c.in_ok-place.place < 128 = node_small c.args.policy.now c.args.sids.now c.in_ok-place.place c.parts.ensures.kept node in
    omega (arith, small)
