use Rattle.std.proofs.Common.{◌≡◌, true, refl, sym, subst}
use Rattle.std.proofs.lemmas.Bool.{eq-eqb}
use Rattle.policy_model.specs.Matching.{is_same_class}
use Rattle.policy_versions.specs.Changes.{Tells}
use Rattle.policy_versions.proofs.TellLemmas.{told_line, told_silent, gives_declared}
use Rattle.policy_versions.proofs.block.Block.draw_line.Goals as goal

pub returns-in-Some : goal.returns-in-Some
returns-in-Some c = λ policy above kinds good told s t hs ht.
    let same : is_same_class c.args.rule.now.class c.args.rule.now.class ≡ true = eq-eqb _ _ refl in
    subst (Tells c.args.content policy _ c.args.rule.now.class s t) (sym (c.change.ensures policy kinds s t hs ht))
    (told_line c.args.content policy above c.args.rule.now c.args.rule.now.class s t _ _ good kinds.few same
    (c.in-Some.ensures policy kinds (gives_declared policy c.args.rule.now.class c.args.rule.now.verdict good.verdict)) (told s t hs ht))

pub returns-in_default : goal.returns-in_default
returns-in_default c = λ policy above kinds good told s t hs ht.
    told_silent c.args.content policy above c.args.rule.now c.args.rule.now.class s t _ good kinds.few
    (c.in_default.ensures policy kinds (gives_declared policy c.args.rule.now.class c.args.rule.now.verdict good.verdict)) (told s t hs ht)
