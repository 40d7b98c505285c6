use Rattle.std.proofs.Common.{◌∙◌, [], sym}
use Rattle.audit_allow.proofs.GrantLemmas.{joined_zero, joined_more}
use Rattle.policy_answers.specs.Differences.{differences_from}
use Rattle.policy_answers.proofs.differing.differences.Goals as goal

pub sources-init : goal.sources-init
sources-init c = c.new-found.ensures ∙ sym (joined_zero (differences_from c.args.policy.now c.args.before c.args.after))

pub sources-preserved : goal.sources-preserved
sources-preserved c =
    joined_more (differences_from c.args.policy.now c.args.before c.args.after) c.sources.s [] c.sources.found c.put_from.new.found c.sources.invariant c.in_ok-put_from.ensures
