use Rattle.policy_model.specs.Deciding.{gives_kind}
use Rattle.policy_model.proofs.DecidingLemmas.{said_more}
use Rattle.policy_model.proofs.policy.PolicyParts.given_kind.Goals as goal

pub rules-preserved : goal.rules-preserved
rules-preserved c =
    let more = said_more (gives_kind c.args.labelling c.args.self.now.attributes c.args.s.now c.args.t.now c.args.class) c.rules_at-rules.result.now c.rules.rule-index c.rule-item.result c.rules-test.true c.rule-item.is in
    rw (more, ← c.rules.invariant, ← c.gives_kind.ensures) c.newer-given.ensures
