use Rattle.std.proofs.Common.{◌≡◌, ◌<◌, ◌∙◌, length, None, sym, subst}
use Rattle.policy_model.specs.Kept.{IsWholePolicy}
use Rattle.flow_query.specs.Hops.{hop_between}
use Rattle.flow_query.specs.Paths.{Query}
use Rattle.flow_query.proofs.NodeLemmas.{node_declared, node_small}
use Rattle.flow_query.proofs.ReachLemmas.{no_hop}
use Rattle.flow_query.proofs.finder.Finder.may_lead.Goals as goal

pub meets-requires-clause-source : goal.meets-requires-clause-source
meets-requires-clause-source c =
    node_small c.args.self.now.policy c.args.self.now.contexts c.args.from (subst (λ (q : Query). IsWholePolicy q.policy) c.self.view_is c.parts-declared.ensures.kept) c.requires.from

pub meets-requires-clause-target : goal.meets-requires-clause-target
meets-requires-clause-target c =
    node_small c.args.self.now.policy c.args.self.now.contexts c.args.to (subst (λ (q : Query). IsWholePolicy q.policy) c.self.view_is c.parts-declared.ensures.kept) c.requires.to

pub meets-requires-else-meets-clause-source : goal.meets-requires-else-meets-clause-source
meets-requires-else-meets-clause-source c =
    node_small c.args.self.now.policy c.args.self.now.contexts c.args.to (subst (λ (q : Query). IsWholePolicy q.policy) c.self.view_is c.parts-declared.ensures.kept) c.requires.to

pub meets-requires-else-meets-clause-target : goal.meets-requires-else-meets-clause-target
meets-requires-else-meets-clause-target c =
    node_small c.args.self.now.policy c.args.self.now.contexts c.args.from (subst (λ (q : Query). IsWholePolicy q.policy) c.self.view_is c.parts-declared.ensures.kept) c.requires.from

pub returns-else-meets : goal.returns-else-meets
returns-else-meets c = λ unread.
    let kept = subst (λ (q : Query). IsWholePolicy q.policy) c.self.view_is c.parts-declared.ensures.kept in
    let from : c.args.from < length c.self.inside.policy.now.kinds =
    subst (λ (q : Query). c.args.from < length q.policy.kinds) (sym c.self.view_is) (node_declared c.args.self.now.policy c.args.self.now.contexts c.args.from c.requires.from) in
    let to : c.args.to < length c.self.inside.policy.now.kinds =
    subst (λ (q : Query). c.args.to < length q.policy.kinds) (sym c.self.view_is) (node_declared c.args.self.now.policy c.args.self.now.contexts c.args.to c.requires.to) in
    subst (λ (q : Query). hop_between q.policy q.version q.kind c.args.from c.args.to ≡ None) c.self.view_is
    (no_hop (record { policy = c.self.inside.policy.now; contexts = c.self.inside.sids.now; version = c.self.inside.version; kind = c.self.inside.kind })
    c.self.inside.rows.now c.self.inside.writing c.self.inside.reading c.self.inside.routes.now c.args.from c.args.to
    c.self.invariant.0 c.self.invariant.1 c.self.invariant.3 c.self.invariant.4 from to
    (node_small c.args.self.now.policy c.args.self.now.contexts c.args.from kept c.requires.from)
    (node_small c.args.self.now.policy c.args.self.now.contexts c.args.to kept c.requires.to)
    (sym c.meets.ensures ∙ c.if-meets.false)
    (sym c.meets-else-meets.ensures ∙ unread))
