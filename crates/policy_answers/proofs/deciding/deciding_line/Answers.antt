use Rattle.policy_answers.specs.Deciders.{speaking_line}
use Rattle.policy_model.proofs.DecidingLemmas.{said_more}
use Rattle.policy_answers.proofs.deciding.deciding_line.Goals as goal

pub rules-preserved : goal.rules-preserved
rules-preserved c =
    let more = said_more (speaking_line c.args.policy.now.attributes c.args.s.now c.args.t.now c.args.perm) c.rules_at-rules.result.now c.rules.rule-index c.rule-item.result c.rules-test.true c.rule-item.is in
    rw (more, ← c.rules.invariant, ← c.speaking_line.ensures) c.newer-line.ensures
