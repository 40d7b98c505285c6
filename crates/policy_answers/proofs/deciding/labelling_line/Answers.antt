use Rattle.policy_answers.specs.Deciders.{giving_line}
use Rattle.policy_model.proofs.DecidingLemmas.{said_more}
use Rattle.policy_answers.proofs.deciding.labelling_line.Goals as goal

pub rules-preserved : goal.rules-preserved
rules-preserved c =
    let more = said_more (giving_line c.args.labelling c.args.policy.now.attributes c.args.s.now c.args.t.now c.args.class) c.rules_at-rules.result.now c.rules.rule-index c.rule-item.result c.rules-test.true c.rule-item.is in
    rw (more, ← c.rules.invariant, ← c.giving_line.ensures) c.newer-line.ensures
