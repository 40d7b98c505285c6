use Rattle.policy_answers.specs.Changes.{changes_of}
use Rattle.policy_answers.proofs.AnswerLemmas.{differences_more}
use Rattle.policy_answers.proofs.changing.changes.Goals as goal

pub differences-preserved : goal.differences-preserved
differences-preserved c =
    differences_more (changes_of c.args.policy.now c.args.before c.args.after) c.as_slice-all.result.now c.differences.difference-index c.difference-item.result c.differences.found c.put_changes.new.found
    c.differences-test.true c.difference-item.is c.differences.invariant c.in_ok-put_changes.ensures
