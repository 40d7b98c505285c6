use Rattle.std.proofs.Common.{◌∙◌, [], ◌∷◌, ◌++◌, sym, ap}
use Rattle.std.specs.Prelude.{if◌then◌else◌}
use Rattle.audit_allow.proofs.GrantLemmas.{joined_zero, joined_more}
use Rattle.policy_answers.specs.Holders.{allowing_at}
use Rattle.policy_answers.proofs.AnswerLemmas.{more_if}
use Rattle.policy_answers.proofs.holding.allowing_versions.Goals as goal

pub versions-init : goal.versions-init
versions-init c = c.new-versions.ensures ∙ sym (joined_zero (allowing_at c.args.policy.now c.args.s.now c.args.t.now c.args.perm))

pub versions-preserved : goal.versions-preserved
versions-preserved c =
    joined_more (allowing_at c.args.policy.now c.args.s.now c.args.t.now c.args.perm) c.versions.version [] c.versions.versions c.push_if.new.numbers c.versions.invariant
    (c.in_ok-push_if.ensures ∙ more_if c.allows-yes.result c.versions.versions (c.versions.version ∷ []) ∙ ap (λ yes. c.versions.versions ++ (if yes then c.versions.version ∷ [] else [])) c.allows-yes.ensures)
