use Rattle.std.proofs.Common.{◌<◌, ◌∙◌, sym, refl, arith}
use Rattle.policy_model.specs.Deciding.{verdict_on}
use Rattle.policy_model.proofs.DecidingLemmas.{unmatched_more, labelling_more, allow_more, withhold_more}
use Rattle.policy_model.proofs.policy.PolicyParts.below_rule.Goals as goal

pub returns-then-not-matches : goal.returns-then-not-matches
returns-then-not-matches c = λ above is. is ∙ sym (unmatched_more _ above _ _ _ _ (sym c.if-not-matches.ensures))

pub returns-in-Allow : goal.returns-in-Allow
returns-in-Allow c = λ above is.
    let small : c.in-Allow.perms < 65536 = omega (arith, c.bits-in-Allow.ensures.value, c.bits-in-Allow.ensures.within) in
    rw (c.of.ensures, c.bits.ensures.value, c.bits-in-Allow.ensures.value, is)
    (sym (allow_more _ above c.args.rule.now _ _ _ c.in-Allow.perms (sym c.if-not-matches.ensures) c.in-Allow.is small))

pub returns-in-Withhold : goal.returns-in-Withhold
returns-in-Withhold c = λ above is.
    rw (c.of-in-Withhold.ensures, c.bits-in-Withhold.ensures.value, c.bits-in-Withhold-2.ensures.value, c.bits-in-Withhold-3.ensures.value, is)
    (sym (withhold_more _ above c.args.rule.now _ _ _ c.in-Withhold.perms (sym c.if-not-matches.ensures) c.in-Withhold.is))

pub returns-in-Transition : goal.returns-in-Transition
unfolding verdict_on
returns-in-Transition c = λ above is. is ∙ sym (labelling_more _ above c.args.rule.now _ _ _ (sym c.if-not-matches.ensures) (λ index. rw c.in-Transition.is refl))

pub returns-in-Member : goal.returns-in-Member
unfolding verdict_on
returns-in-Member c = λ above is. is ∙ sym (labelling_more _ above c.args.rule.now _ _ _ (sym c.if-not-matches.ensures) (λ index. rw c.in-Member.is refl))
