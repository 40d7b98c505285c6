use Rattle.std.proofs.Common.{◌∙◌, ◌++◌, sym, ap}
use Rattle.std.proofs.lemmas.List.{append-nil}
use Rattle.audit_allow.proofs.GrantLemmas.{joined_zero, joined_more}
use Rattle.policy_answers.specs.Differences.{differences_between}
use Rattle.policy_answers.proofs.differing.put_from.Goals as goal

pub targets-init : goal.targets-init
targets-init c = sym (ap (λ back. c.args.found.now ++ back) (joined_zero (differences_between c.args.policy.now c.args.versions.before c.args.versions.after c.args.s)) ∙ append-nil c.args.found.now)

pub targets-preserved : goal.targets-preserved
targets-preserved c =
    joined_more (differences_between c.args.policy.now c.args.versions.before c.args.versions.after c.args.s) c.targets.t c.args.found.now c.targets.found c.put_between.new.found c.targets.invariant c.in_ok-put_between.ensures
