use Rattle.std.proofs.Common.{◌∙◌, [], ◌∷◌, ◌++◌, sym, ap}
use Rattle.audit_allow.proofs.GrantLemmas.{joined_zero, joined_more}
use Rattle.policy_answers.specs.Deciders.{decision_at, decision_on}
use Rattle.policy_answers.proofs.deciding.decisions.Goals as goal

pub indexes-init : goal.indexes-init
indexes-init c = c.new-found.ensures ∙ sym (joined_zero (decision_at c.args.policy.now c.args.version c.args.s.now c.args.t.now c.args.class))

pub indexes-preserved : goal.indexes-preserved
indexes-preserved c =
    joined_more (decision_at c.args.policy.now c.args.version c.args.s.now c.args.t.now c.args.class) c.indexes.index [] c.indexes.found c.push.new.self c.indexes.invariant
    (c.in_ok-push.ensures.ok ∙ ap (λ one. c.indexes.found ++ one ∷ []) (c.decision_on.ensures ∙ ap (decision_on c.args.policy.now c.args.version c.args.s.now c.args.t.now) c.perm_at.ensures))
