use Rattle.std.proofs.Common.{◌∙◌, ◌+◌, sym, ap, subst, take}
use Rattle.std.specs.List.{All}
use Rattle.std.proofs.lemmas.List.{take_all}
use Rattle.access_vectors.specs.Vectors.{with_index}
use Rattle.flow_query.specs.Reaches.{HasRoute}
use Rattle.flow_query.proofs.ReachLemmas.{perms_more, perms_passed}
use Rattle.flow_query.proofs.reach.perms_of.Goals as goal
use Rattle.flow_query.proofs.reach.perms_of.Goals.{then-is_of, else-is_of}

pub routes-preserved : goal.routes-preserved
routes-preserved c = elim c.if-is_of.branch [
  | then-is_of w ↦
      perms_more c.args.class c.args.way c.routes.perms c.if-is_of.perms c.routes.route-index c.args.routes.now c.route-item.result c.routes-test.true c.route-item.is
      (w.perms-is ∙ w.with-perms.ensures ∙ ap (with_index c.routes.perms) w.index.ensures.value) c.routes.invariant
  | else-is_of w ↦
      subst (λ n. All (HasRoute c.args.class c.args.way n) (take (c.routes.route-index + 1) c.args.routes.now)) (sym w.perms-is)
      (perms_passed c.args.class c.args.way c.routes.perms c.routes.route-index c.args.routes.now c.route-item.result c.routes-test.true c.route-item.is
      (λ same goes. c.is_of.ensures w.if-is_of.false same goes) c.routes.invariant)
]

pub returns : goal.returns
returns c = subst (All (HasRoute c.args.class c.args.way c.routes.perms)) (take_all c.routes.route-index c.args.routes.now c.routes-test.false) c.routes.invariant
