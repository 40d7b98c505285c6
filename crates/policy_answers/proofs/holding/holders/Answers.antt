use Rattle.std.proofs.Common.{◌∙◌, [], sym}
use Rattle.audit_allow.proofs.GrantLemmas.{joined_zero, joined_more}
use Rattle.policy_answers.specs.Holders.{holder_at}
use Rattle.policy_answers.proofs.holding.holders.Goals as goal

pub types-init : goal.types-init
types-init c = c.new-found.ensures ∙ sym (joined_zero (holder_at c.args.policy.now c.args.version c.args.t.now c.args.perm))

pub types-preserved : goal.types-preserved
types-preserved c =
    joined_more (holder_at c.args.policy.now c.args.version c.args.t.now c.args.perm) c.types.s [] c.types.found c.put_holder.new.found c.types.invariant c.in_ok-put_holder.ensures
