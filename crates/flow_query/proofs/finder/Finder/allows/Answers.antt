use Rattle.std.proofs.Common.{◌<◌, length, sym, ap, subst}
use Rattle.policy_model.specs.Kept.{IsWholePolicy}
use Rattle.access_vectors.specs.Vectors.{has}
use Rattle.flow_query.specs.Hops.{is_allowed}
use Rattle.flow_query.specs.Paths.{Query}
use Rattle.flow_query.proofs.NodeLemmas.{node_declared, node_small}
use Rattle.flow_query.proofs.finder.Finder.allows.Goals as goal

pub type_at-requires : goal.type_at-requires
type_at-requires c =
    node_small c.args.self.now.policy c.args.self.now.contexts c.args.s (subst (λ (q : Query). IsWholePolicy q.policy) c.self.view_is c.parts-declared.ensures.kept) c.requires.source

pub type_at-requires-2 : goal.type_at-requires-2
type_at-requires-2 c =
    node_small c.args.self.now.policy c.args.self.now.contexts c.args.t (subst (λ (q : Query). IsWholePolicy q.policy) c.self.view_is c.parts-declared.ensures.kept) c.requires.target

pub returns : goal.returns
unfolding is_allowed
returns c =
    let source = subst (λ (q : Query). c.args.s < length q.policy.kinds) (sym c.self.view_is) (node_declared c.args.self.now.policy c.args.self.now.contexts c.args.s c.requires.source) in
    let target = subst (λ (q : Query). c.args.t < length q.policy.kinds) (sym c.self.view_is) (node_declared c.args.self.now.policy c.args.self.now.contexts c.args.t c.requires.target) in
    rw (← c.self.view_is, c.has.ensures, c.index.ensures.value, c.cell.ensures, c.class.ensures, c.type_at.ensures, c.type_at-2.ensures)
    (ap (λ v. has v c.args.perm.index) (c.self.invariant.0 c.self.inside.version c.args.s c.args.t c.args.perm.class source target))
