use Rattle.std.proofs.Common.{◌∙◌, ◌++◌, sym, ap}
use Rattle.std.proofs.lemmas.List.{append-nil}
use Rattle.audit_allow.proofs.GrantLemmas.{joined_zero, joined_more}
use Rattle.policy_answers.specs.Changes.{change_at}
use Rattle.policy_answers.proofs.changing.put_changes.Goals as goal

pub indexes-init : goal.indexes-init
indexes-init c = sym (ap (λ back. c.args.found.now ++ back) (joined_zero (change_at c.args.policy.now c.args.versions.before c.args.versions.after c.args.difference.now)) ∙ append-nil c.args.found.now)

pub indexes-preserved : goal.indexes-preserved
indexes-preserved c =
    joined_more (change_at c.args.policy.now c.args.versions.before c.args.versions.after c.args.difference.now) c.indexes.index c.args.found.now c.indexes.found c.put_change.new.found c.indexes.invariant c.in_ok-put_change.ensures
